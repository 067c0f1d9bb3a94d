-- The laws of entries that proofs of this crate and of those above it cite.
pub mod Change
pub mod Fields
pub mod Built
pub mod Unique
