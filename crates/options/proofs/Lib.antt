pub mod Row
pub mod Runs
pub mod Unique
