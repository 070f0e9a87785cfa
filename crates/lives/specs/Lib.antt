pub mod Lives
pub mod Studies
pub mod Sheets
pub mod Archive
pub mod Words
pub mod Decode
pub mod RoundTrip
