-- What the proofs of the code rest on.
pub mod Before
pub mod Seeking
pub mod Icon
