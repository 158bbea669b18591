-- Laws of the definitions: what the proofs of the code rest on, and what a walk from position to
-- position meets. A reader of the contracts need not read what stands here.
pub mod Steps
pub mod Reach
pub mod Ahead
pub mod Lists
pub mod Ends
pub mod Endless
pub mod Opens
pub mod Pages
