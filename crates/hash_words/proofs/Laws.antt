-- What the proofs of the code rest on.
pub mod Pairs
pub mod Hashed
pub mod Signed
pub mod Front
