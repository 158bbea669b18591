-- What the proofs of the code rest on. A reader of the contracts need not read what stands here.
pub mod Walks
pub mod Repeats
pub mod Buckets
pub mod Order
