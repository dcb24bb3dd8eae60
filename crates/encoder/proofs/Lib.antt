pub mod Answers
pub mod Cuts
pub mod Turns
pub mod Unique
