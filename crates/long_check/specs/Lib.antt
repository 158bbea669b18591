-- What the functions of the long check hand to one another.
pub mod Scan
pub mod Check
pub mod Laws
