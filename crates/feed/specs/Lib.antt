pub mod Feed
pub mod Laws
pub mod Ways
pub mod Nodes
pub mod Pending
pub mod Hashed
