-- What the contracts of `pgt_translate` and `as_satp` cite, and the machine of the manual.
pub mod Translate
pub mod Satp
pub mod Sv39
