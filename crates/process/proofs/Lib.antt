-- The laws of the calls made of parts, and the life of a root.
pub mod StillRoot
pub mod LeaveSame
pub mod RestLaws
pub mod CutLaws
pub mod PageLaws
pub mod PoolPages
pub mod RootGoneLaws
pub mod PartLaws
pub mod OtherTables
pub mod RootTables
pub mod Lifetime
