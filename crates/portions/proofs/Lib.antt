pub mod Unique
pub mod Left
