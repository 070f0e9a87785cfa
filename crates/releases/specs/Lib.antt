pub mod Limits
pub mod Sheets
pub mod Growths
pub mod Steps
pub mod Pieces
