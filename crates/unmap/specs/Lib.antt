-- What the contracts of `uvm_unmap` and `uvm_clear` cite.
pub mod Leave
pub mod Unmap
pub mod Clear
pub mod Gone
