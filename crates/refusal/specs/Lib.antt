-- What every contract that speaks of a refusal cites.
pub mod Number
