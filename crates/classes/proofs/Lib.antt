pub mod Enterings
