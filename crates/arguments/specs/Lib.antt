pub mod Commands
pub mod Files
pub mod Hashers
pub mod Judging
pub mod Misuses
pub mod Texts
