-- Laws of the definitions: what the proofs of the code rest on, and that the definitions meet
-- demand 3 and request 9. A reader of the contracts need not read what stands here.

-- of each definition by itself
pub mod First
pub mod Faults
pub mod Outcomes
pub mod Numbers
pub mod Reads
pub mod Bytes
pub mod Put
pub mod Strings
pub mod Extents
pub mod Texts
pub mod Hashes
pub mod Names
pub mod Segments
pub mod Header
pub mod Paths
pub mod Images
pub mod Records
pub mod Rules
pub mod Notes
pub mod Directory
-- of chains and the check
pub mod Below
pub mod Pigeonhole
pub mod Follow
pub mod Along
pub mod Course
pub mod Links
pub mod Apart
pub mod Order
pub mod InOrder
pub mod Buckets
pub mod Verdict
pub mod Search
pub mod Lookup
pub mod LookupAnswers
pub mod LookupNumbers
pub mod Demand
pub mod Longest
-- of the long reading
pub mod Regions
