-- The laws of unmapping.
pub mod PoolLaws
pub mod LeaveReasons
pub mod UnmapReasons
pub mod LeaveSlots
pub mod LeavePage
pub mod LeavePages
pub mod GoneLaws
pub mod UnmapLaws
pub mod ClearLaws
pub mod ClearedLaws
