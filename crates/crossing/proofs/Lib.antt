pub mod Carries
pub mod Unique
