-- What the functions of this crate hand to their callers.
pub mod Puts
pub mod Laws
