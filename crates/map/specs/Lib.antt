-- What the contracts of `uvmcreate` and `map` cite.
pub mod Create
pub mod Numbers
pub mod Reasons
pub mod Map
pub mod Demand3
