-- Examples, computed by the checker.
pub mod BoxExample
