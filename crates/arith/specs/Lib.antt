pub mod Sums
pub mod Means
pub mod Fractions
pub mod Rivals
pub mod Log
pub mod Scores
