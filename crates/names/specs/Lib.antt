pub mod Index
pub mod Repeat
pub mod Laws
