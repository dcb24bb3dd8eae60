pub mod Ascii
pub mod Width
