pub mod Cases
pub mod Entries
pub mod Unique
