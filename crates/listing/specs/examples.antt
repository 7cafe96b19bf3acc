-- Examples, computed by the checker.
pub mod ListingExample
pub mod ProgramExample
