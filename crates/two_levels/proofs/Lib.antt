pub mod SignedRule
pub mod TwoLevels
pub mod QuietValues
pub mod QuietItems
pub mod NeverArises
