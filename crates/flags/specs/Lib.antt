-- Request 5 of document 02 as definitions. Here x are flags and f is a flag; j and k are the
-- numbers of numberings, n and m numberings.
pub mod Flags
pub mod Examples
