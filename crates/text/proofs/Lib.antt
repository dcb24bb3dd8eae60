pub mod Ascii
pub mod Leads
pub mod Widths
pub mod Unique
