-- The laws of `free`.
pub mod FreeReasons
pub mod FreeTreeLaws
pub mod Truth
pub mod Wiped
pub mod Belongs
pub mod Hung
pub mod Released
pub mod GivenBack
pub mod FreedLaws
pub mod FreeLaws
