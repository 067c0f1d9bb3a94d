-- What the contracts of dumping cite.
pub mod Dump
