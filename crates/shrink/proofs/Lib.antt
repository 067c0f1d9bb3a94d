-- The laws of sizes and of `uvm_dealloc`.
pub mod SizeReasons
pub mod ShrinkReasons
pub mod ShrinkLaws
