-- The laws of entering pages: tables hung, words written, and runs of them.
pub mod Slots
pub mod PutRun
pub mod Updates
pub mod Tables
pub mod Leaves
pub mod Walks
pub mod Step
pub mod Hang
pub mod Write
pub mod EnterPage
pub mod EnterPages
pub mod Runs
pub mod Going
