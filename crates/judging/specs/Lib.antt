-- What the functions that judge a catalogue hand to one another, and to their callers.
pub mod Judging
pub mod Laws
