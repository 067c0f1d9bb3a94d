-- What the contracts of `store` and of the crates above it cite.
pub mod Says
pub mod Sum
pub mod Store
pub mod Level
pub mod Count
pub mod WellFormed
pub mod Walk
pub mod Owners
pub mod Reached
pub mod Outcome
pub mod SetUp
