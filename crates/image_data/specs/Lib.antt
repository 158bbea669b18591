-- The calls of request 10 by an IMAGE_DATA_OFFSET as definitions; the parts and rules behind it
-- stand in `format` (ImageData, Notes).
pub mod Call
pub mod Promise
pub mod Examples
