-- What follows from the definitions.
pub mod Fitting
pub mod Answer
pub mod Picking
