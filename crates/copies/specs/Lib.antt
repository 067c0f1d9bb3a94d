-- What the contracts of `copy_in` and `copy_out` cite.
pub mod Bytes
pub mod Needed
pub mod InOut
pub mod Moved
