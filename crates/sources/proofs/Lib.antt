pub mod Questions
pub mod Ages
pub mod Lives
pub mod Benches
pub mod Bounds
