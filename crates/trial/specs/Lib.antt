pub mod Marks
pub mod Table
pub mod Trials
