-- What the proofs of the code rest on.
pub mod Laws
