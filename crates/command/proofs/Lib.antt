-- The laws of numbers, of pieces and of lines.
pub mod Parsing
pub mod Reading
