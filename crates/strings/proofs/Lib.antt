-- The laws of `copy_in_str`.
pub mod ZeroLaws
pub mod StrLaws
pub mod TextCode
pub mod TextReasons
pub mod TextLaws
