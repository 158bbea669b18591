-- Request 8 of document 02 as definitions, in the order in which to read them: a catalogue as data
-- and as bytes, and how any bytes are judged; when a buffer is a cache of a catalogue, and what it
-- does then; the cache that is written from a catalogue, and the catalogue that a cache is listed
-- as; what both calls answer, and what is promised.
--
-- Beside the letters of `format`: c are bytes that are read as a catalogue, d is a catalogue, t a
-- text (the bytes of a path or a name), q where the parts of a cache stand, b a number of buckets,
-- i the number of a path or an icon, n and m are counts.
pub mod Row
pub mod Catalogue
pub mod Fields
pub mod Judgement
pub mod Cursor
pub mod Repeats
pub mod LaidOut
pub mod Serves
pub mod Written
pub mod Append
pub mod Listed
pub mod Call
pub mod Promise
pub mod Examples
