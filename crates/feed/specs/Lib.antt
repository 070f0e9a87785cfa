pub mod BatchRules
pub mod Batches
pub mod BatchLaws
