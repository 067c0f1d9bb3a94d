-- What is said of every sequence of calls.
pub mod Call
pub mod Answers
pub mod Numbers
pub mod Sequence
pub mod Laws
pub mod Told
