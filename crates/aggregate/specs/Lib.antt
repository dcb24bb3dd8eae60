pub mod Spanned
pub mod Tallies
pub mod Gathered
pub mod Marked
