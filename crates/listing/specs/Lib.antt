-- Request 2 of document 02 as definitions. Beside the letters of `format`, q is a position and c a
-- count of records passed.
pub mod Listing
pub mod Reach
pub mod Paging
pub mod Examples
