pub mod Bounds
pub mod Steps
pub mod Counts
mod Left
pub mod Successions
mod TakingOver
