pub mod Memory
pub mod Filled
pub mod Answered
pub mod Plain
mod Turning
pub mod Summed
