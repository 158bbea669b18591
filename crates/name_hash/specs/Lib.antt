-- How far a string is read.
pub mod Reached
