pub mod Cloning
pub mod Counting
pub mod Indexing
pub mod Surveying
