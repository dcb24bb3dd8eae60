pub mod Texts
pub mod Adding
pub mod Added
