-- The laws on the pages of a range.
pub mod Unique
