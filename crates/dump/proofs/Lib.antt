-- The laws of the rows of a dump, and of the room that they take.
pub mod Listings
pub mod Bound
