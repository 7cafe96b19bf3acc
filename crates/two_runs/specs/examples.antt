-- Examples, computed by the checker.
pub mod TwoRunsExample
pub mod RunsExample
