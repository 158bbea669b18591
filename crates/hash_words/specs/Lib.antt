-- What the functions of this crate hand to one another.
pub mod Sums
