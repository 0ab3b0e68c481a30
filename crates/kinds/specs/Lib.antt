pub mod Names
pub mod Numbers
pub mod Rules
pub mod Cleaned
pub mod Longest
