-- What the contract of `free` cites, and what it means.
pub mod Free
pub mod FreeTree
pub mod Freed
