pub mod Judging
pub mod Promising
