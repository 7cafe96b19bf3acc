-- What a reader must believe.
pub mod Unbind
pub mod Lower
