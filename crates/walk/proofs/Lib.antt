-- The laws of the walk.
pub mod Spans
pub mod MissingLaws
pub mod Groups
pub mod RangeLaws
pub mod Counts
pub mod Pages
pub mod Calls
