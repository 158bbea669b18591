pub mod Whole
pub mod Wrapping
