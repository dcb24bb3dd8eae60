pub mod Rows
pub mod Filling
pub mod Unique
pub mod UniqueWriting
