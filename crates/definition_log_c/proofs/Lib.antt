pub mod EveryTwoRuns
