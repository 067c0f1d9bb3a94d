-- What the contracts of `program` cite.
pub mod Memory
pub mod Answers
pub mod Lines
