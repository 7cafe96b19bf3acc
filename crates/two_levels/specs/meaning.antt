-- What a reader must believe.
pub mod SignedRule
pub mod TwoLevels
pub mod NeverArises
