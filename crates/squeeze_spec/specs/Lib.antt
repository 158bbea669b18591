-- Request 12 of document 02 as definitions: an accepted cache rewritten in request 8's layout, with
-- equal strings, equal image lists and equal names once.
pub mod Uses
pub mod Packed
pub mod Squeezed
pub mod Call
pub mod Promise
pub mod Examples
