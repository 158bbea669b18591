-- Laws of the definitions: that they keep the promises, and what the proofs of the code rest on. A
-- reader of the contracts need not read what stands here.

-- of lists, and of the search for the first number that fails a test
pub mod Lists
pub mod Search
-- of one chain: how far its walk goes, and what becomes of each record
pub mod Meets
pub mod Ends
pub mod Kept
pub mod Names
pub mod Numbers
pub mod Places
-- of the whole
pub mod Paths
pub mod Steps
pub mod Accounts
pub mod Sound
pub mod Whole
pub mod Good
pub mod Repairs
pub mod Promise
-- of what is written piece by piece
pub mod Pieces
