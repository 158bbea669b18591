-- What the proofs of the code rest on.
pub mod Distinct
pub mod Lists
pub mod Counting
