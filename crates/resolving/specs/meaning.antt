-- What a reader must believe.
pub mod Resolve
pub mod Exact
