pub mod Row
pub mod Extending
pub mod Putting
pub mod Filling
pub mod Listing
pub mod Unique
