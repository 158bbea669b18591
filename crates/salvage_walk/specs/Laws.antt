-- What the proofs of the code rest on. A reader of the contracts need not read what stands here.
pub mod Grows
pub mod Chain
pub mod End
pub mod Chains
