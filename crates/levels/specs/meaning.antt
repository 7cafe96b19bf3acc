-- What a reader must believe.
pub mod Unsigned
pub mod Rules
