-- The laws of `uvmcreate` and `map`: their reasons, what entered pages mean, and demand 3.
pub mod NumberLaws
pub mod ReasonLaws
pub mod CreateLaws
pub mod Entered
pub mod ReadyLaws
pub mod Demand3
pub mod MapLaws
