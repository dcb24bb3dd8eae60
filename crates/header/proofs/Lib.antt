pub mod Readers
pub mod Unique
