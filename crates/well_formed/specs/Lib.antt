-- What the contracts of `well_formed` cite.
pub mod Check
pub mod Scan
pub mod Root
