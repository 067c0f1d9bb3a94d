-- The laws of the copies.
pub mod PageReasons
pub mod BytesLaws
pub mod BytesCode
pub mod CopyReasons
pub mod InOutLaws
pub mod OneOwner
pub mod PlaceLaws
pub mod MovedLaws
