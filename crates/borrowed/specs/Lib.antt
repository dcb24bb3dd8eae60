pub mod Walked
pub mod FirstLook
