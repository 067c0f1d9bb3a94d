-- What the contracts of writing cite.
pub mod Text
