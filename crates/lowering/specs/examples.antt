-- Examples, computed by the checker.
pub mod Example
pub mod InputExample
pub mod Slips
