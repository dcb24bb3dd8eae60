pub mod Rows
pub mod Unique
pub mod Whole
