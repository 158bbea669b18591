-- Request 13: the plain lookup, and what is promised of it.
pub mod Plain
pub mod Promise
pub mod Examples
