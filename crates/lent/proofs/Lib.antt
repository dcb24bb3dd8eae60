pub mod Moves
pub mod Unique
