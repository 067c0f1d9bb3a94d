-- What the contracts of fresh frames cite, and what they mean.
pub mod Fill
pub mod Fresh
pub mod Grown
