-- The laws of `uvm_copy`.
pub mod FrameCopy
pub mod PageBytes
pub mod ChildPages
pub mod ChildReasons
pub mod Spared
pub mod ChildLoop
pub mod ChildLaws
