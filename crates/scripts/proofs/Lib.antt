pub mod Soles
pub mod Numbers
pub mod Listed
pub mod Copied
pub mod Words
pub mod Headed
pub mod Rows
pub mod Narrowing
