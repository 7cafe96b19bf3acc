pub mod Checks
pub mod Headers
pub mod Duplicates
pub mod PostChecks
pub mod References
pub mod PartsChecked
