-- What the proofs of the code rest on. A reader of the contracts need not read what stands here.
pub mod Way
pub mod Judged
pub mod Called
pub mod Inside
pub mod Kept
pub mod Answered
pub mod Promise
