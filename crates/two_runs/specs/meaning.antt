-- What a reader must believe.
pub mod TwoRuns
pub mod WholeRuns
