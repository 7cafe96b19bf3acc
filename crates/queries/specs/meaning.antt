-- What a reader must believe.
pub mod Kind
pub mod Live
pub mod Labels
pub mod History
pub mod Lookup
pub mod Query
