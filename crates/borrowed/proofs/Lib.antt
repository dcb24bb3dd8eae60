pub mod Refusals
pub mod Runs
pub mod Shown
pub mod Answers
pub mod Joining
pub mod FirstLook
pub mod Unique
