-- What the proofs of the code rest on. A reader of the contracts need not read what stands here.
pub mod Whole
pub mod Answer
