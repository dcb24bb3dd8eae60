pub mod Passes
pub mod Puts
