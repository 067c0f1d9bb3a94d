-- What the contracts of `enter` cite: the store after entering pages.
pub mod Enter
