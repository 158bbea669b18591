-- What the proofs of the code rest on.
pub mod Adds
pub mod Blocks
pub mod Chains
