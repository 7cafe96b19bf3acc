-- Examples, computed by the checker.
pub mod RecordExample
