-- What the proofs of the code rest on.
pub mod Table
pub mod News
pub mod Cells
pub mod Shares
