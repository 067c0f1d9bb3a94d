-- What the contract of `uvm_copy` cites.
pub mod Child
pub mod Copied
