-- What the contracts of replies cite.
pub mod Reply
