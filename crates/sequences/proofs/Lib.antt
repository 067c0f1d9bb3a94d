-- The laws of sequences of calls.
pub mod Reasons
pub mod Tables
pub mod Left
pub mod RootLeft
pub mod PartLeft
pub mod Lawful
pub mod Calls
pub mod Sequences
pub mod Steps
