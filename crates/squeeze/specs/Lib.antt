-- What the functions of this crate hand to one another, and the laws that their proofs rest on.
pub mod Sizes
pub mod Laws
