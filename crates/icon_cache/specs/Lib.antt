-- What the results of the calls say.
pub mod Answers
