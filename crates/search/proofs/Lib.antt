pub mod Stretches
pub mod Searching
