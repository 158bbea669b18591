-- What is known of parts that are stored once, and of two parts that are put side by side.
pub mod Maps
pub mod Both
pub mod Laws
