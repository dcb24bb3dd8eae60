pub mod Added
pub mod Adding
pub mod Texts
pub mod Lengths
pub mod Measured
pub mod Unique
