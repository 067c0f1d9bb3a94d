-- What the contract of `copy_in_str` cites, and what it means.
pub mod Str
pub mod TextRead
