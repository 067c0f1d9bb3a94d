-- What the contracts of the calls made of parts cite, and the life of a root.
pub mod Parts
pub mod PartsReady
pub mod RootGone
pub mod Lifetime
