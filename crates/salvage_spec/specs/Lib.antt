-- Request 11 of document 02 as definitions, in the order in which to read them: how far the walk of
-- a chain goes and what becomes of each record that it meets; the catalogue of what is kept and the
-- report of what went; what the call answers and leaves; what is promised; what is written, piece
-- by piece.
--
-- The letters are those of `format` and `catalogue`, but n and m are steps of a walk; e is an entry
-- of the report.
pub mod Lists
pub mod Meetings
pub mod Salvage
pub mod Call
pub mod Promise
pub mod Pieces
pub mod Examples
