pub mod Numerals
pub mod Pieces
pub mod Lines
pub mod Rules
