-- What the proof of the code rests on, and why both lookups answer alike.
pub mod Tried
pub mod Same
