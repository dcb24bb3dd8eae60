pub mod Cuts
pub mod Unique
