-- What the contracts of `uvm_init` and `uvm_alloc` cite.
pub mod Init
pub mod Grow
