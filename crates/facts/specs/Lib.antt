pub mod Over
pub mod Pieces
pub mod Ranges
pub mod BigEndian
pub mod Distinct
pub mod Each
