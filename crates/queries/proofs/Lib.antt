-- Laws by subject: searches in lists, gaps in a log, chains, records, one pass over a log, the table of later definitions, look-ups above a
-- path, what a definition does in the pass of a live list, answers by record numbers.
pub mod Gap
pub mod Chain
pub mod Records
pub mod Fold
pub mod Distinct
pub mod Meant
pub mod Picked
pub mod Another
pub mod LookedUp
pub mod Table
pub mod Fronts
pub mod Turn
pub mod Numbers
pub mod QueryAnswers
