-- What a reader must believe.
pub mod Listing
pub mod Program
