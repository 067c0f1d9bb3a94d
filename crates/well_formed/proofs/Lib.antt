-- The laws of the check.
pub mod Answered
pub mod Parts
pub mod Slices
pub mod Ors
pub mod WordLaws
pub mod Chunks
pub mod PointerLaws
pub mod MarkLaws
pub mod Pool
pub mod Verdict
pub mod RootReasons
