-- Laws of an index and of the first repeat: what the proofs of the code rest on.
pub mod Between
pub mod Index
pub mod Repeat
