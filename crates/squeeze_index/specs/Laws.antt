-- What the proofs of the code rest on.
pub mod Maps
pub mod Both
pub mod Firsts
