-- What the reader's functions hand to one another; its whole answer is in `catalogue`.
pub mod Parts
pub mod Laws
