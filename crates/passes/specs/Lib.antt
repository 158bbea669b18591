-- What the passes over a catalogue hand to their callers, and the laws that their proofs rest on.
pub mod Passes
pub mod Record
pub mod Laws
