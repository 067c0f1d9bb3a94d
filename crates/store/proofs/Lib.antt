-- The laws of the store that proofs of this crate and of those above it cite.
pub mod Tests
pub mod Scans
pub mod Sums
pub mod Levels
pub mod Free
pub mod Parts
pub mod Taken
pub mod Tally
pub mod Reached
pub mod Tree
pub mod Walk
pub mod Owners
pub mod Entries
pub mod Outcomes
pub mod SetUp
