pub mod Readings
pub mod Parts
pub mod Calls
pub mod Headings
pub mod Scripts
pub mod Spellings
