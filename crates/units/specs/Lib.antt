pub mod Refusals
pub mod Hours
pub mod Texts
