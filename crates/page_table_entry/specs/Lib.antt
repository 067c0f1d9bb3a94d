-- What the contracts of `page_table_entry` cite.
pub mod Layout
pub mod Change
pub mod Built
