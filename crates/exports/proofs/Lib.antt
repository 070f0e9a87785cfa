pub mod Exposed
pub mod Counted
pub mod Coded
pub mod Gathered
pub mod Repeated
