pub mod Telling
pub mod Resting
pub mod Whole
pub mod Unique
pub mod Room
