mod Rows
mod Piles
mod Laid
mod Passes
mod Scored
mod Tabled
mod Aged
mod Fitted
mod Solids
mod Parts
pub mod Listed
mod Sides
pub mod Gaps
mod Likely
mod Turns
pub mod Best
pub mod Faultless
mod Values
pub mod Steps
