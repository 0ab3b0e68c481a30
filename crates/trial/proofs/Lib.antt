pub mod Extending
pub mod Marking
pub mod Recording
pub mod Restoring
