pub mod Rows
pub mod Scans
pub mod Unique
