-- Laws of the definitions. A reader of the contracts need not read what stands here.

-- of first uses, and of a packed cache: it lays out its catalogue
pub mod Uses
pub mod Packed
-- of the check's order, of the records that stay, and of what a cache holds
pub mod Elements
pub mod Picked
pub mod Order
pub mod Kept
pub mod Contents
-- of lookups in the one cache and in the other
pub mod Same
pub mod Lookups
-- of what a squeezed cache holds
pub mod Again
pub mod Data
-- and so request 12 keeps what it promises
pub mod Right
pub mod Call
-- for the code: of passes over the records, and of the bytes that are copied
pub mod Passes
pub mod There
