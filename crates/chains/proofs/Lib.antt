pub mod Stops
pub mod Way
pub mod Back
