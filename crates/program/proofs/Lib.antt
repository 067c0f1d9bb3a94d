-- The laws that the proofs of `program` cite.
pub mod Answering
pub mod WholeLines
pub mod Readback
pub mod Samples
