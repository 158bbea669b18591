-- What the functions of this crate hand to one another, and to their callers.
pub mod Cursor
pub mod Laws
