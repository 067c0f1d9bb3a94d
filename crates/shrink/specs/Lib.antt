-- What the contracts of sizes and of `uvm_dealloc` cite.
pub mod Sizes
pub mod Shrink
