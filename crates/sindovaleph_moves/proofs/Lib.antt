pub mod Crossed
pub mod Unique
