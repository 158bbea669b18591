-- Laws of the definitions: what the proofs of the code rest on, and that the promises are kept. A
-- reader of the contracts need not read what stands here.

-- of things in a row, and of bytes that stand somewhere
pub mod Rows
pub mod Stands
pub mod Putting
-- of a catalogue's bytes: judged good they are those of what they say, and back
pub mod Allowed
pub mod Repeats
pub mod Images
pub mod Spans
pub mod Judged
pub mod Read
pub mod RoundTrip
pub mod Cursor
-- of a cache that lays out a catalogue: it is accepted, and a lookup finds each name
pub mod Tables
pub mod Laid
pub mod Kept
pub mod Chains
pub mod Counts
pub mod Serves
-- of the records of a cache, and of the catalogue that it is listed as
pub mod Rising
pub mod Elements
pub mod Listed
pub mod Names
pub mod Icons
pub mod Reader
-- of the written cache: how its chains come about, and that it lays out its catalogue
pub mod Append
pub mod Front
pub mod Grows
pub mod Arranged
pub mod Written
-- of the calls; and so the promises are kept
pub mod Call
pub mod Promise
-- of the code that writes parts in a row
pub mod Pass
