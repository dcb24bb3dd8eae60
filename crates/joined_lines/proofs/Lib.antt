pub mod Telling
pub mod Whole
pub mod Room
pub mod Unique
