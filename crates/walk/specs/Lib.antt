-- What the contracts of `walk` cite.
pub mod Mapped
pub mod Missing
pub mod Runs
pub mod Ranges
