pub mod Lowers
pub mod Under
pub mod Leading
pub mod Targets
pub mod Exact
