-- What the contracts of `interface` cite.
pub mod Calls
