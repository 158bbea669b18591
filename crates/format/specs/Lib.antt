-- Documents 000 and 01, and the requests of document 02 that have landed, as definitions: what a
-- reader of the contracts has to believe. They are listed in the order in which to read them.
--
-- A letter means one thing: s a buffer, k a bucket, r a record (its offset), f a field (its
-- offset), x a rule's number, p a place or another offset, o opened records, v a judgement.
pub mod Layout
pub mod Number
pub mod Bytes
pub mod Part
pub mod Fault
pub mod Listed
pub mod String
pub mod Segments
pub mod Header
pub mod ImageData
pub mod Notes
pub mod Record
pub mod Chain
pub mod Answer
pub mod Call
pub mod Words
pub mod Places
pub mod Demand
pub mod Farm
pub mod Examples
