pub mod Changes
pub mod Commands
