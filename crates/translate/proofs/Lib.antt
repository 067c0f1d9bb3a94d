-- The laws of translation: that of the manual, and ours.
pub mod Memory
pub mod Judged
pub mod Sv39
pub mod Sv39Samples
pub mod TranslateLaws
pub mod SatpLaws
