-- The laws of growing, and of growing and then shrinking back.
pub mod GrowCode
pub mod InitReasons
pub mod InitLaws
pub mod GrowReasons
pub mod GrowLaws
pub mod BackLaws
