-- The statement of the samples.
pub mod Samples
