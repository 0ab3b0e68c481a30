pub mod Words
pub mod Rotating
pub mod Fnv1a
pub mod Named
