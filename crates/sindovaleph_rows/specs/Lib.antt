pub mod Listing
pub mod Writing
