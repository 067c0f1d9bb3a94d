-- The samples, proved.
pub mod Samples
