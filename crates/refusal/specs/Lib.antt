pub mod Others
pub mod Told
