-- The laws of fresh frames: one slot filled, then pages in turn.
pub mod FreshReasons
pub mod FrameBytes
pub mod FrameCode
pub mod FillPage
pub mod FreshPage
pub mod FreshPages
pub mod GrowLoop
pub mod GrownLaws
