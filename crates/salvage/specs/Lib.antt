-- What the call answers, and what the functions of this crate hand to one another.
pub mod Answer
pub mod Pass
pub mod Laws
