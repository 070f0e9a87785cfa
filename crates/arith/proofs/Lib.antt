pub mod Powers
pub mod Sums
pub mod Means
pub mod Chains
pub mod Blocks
pub mod Fractions
pub mod Rivals
pub mod Log
pub mod Scores
mod Squarings
