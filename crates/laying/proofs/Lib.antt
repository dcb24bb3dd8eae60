pub mod Measured
pub mod Passes
pub mod Puts
pub mod Together
pub mod Unique
