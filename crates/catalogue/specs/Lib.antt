pub mod Faults
pub mod Kinds
pub mod Classes
pub mod Numbers
pub mod States
pub mod Calls
pub mod Model
pub mod Promise
