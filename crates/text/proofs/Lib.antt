-- The laws of decimals and of what is written.
pub mod Writing
pub mod Decimals
