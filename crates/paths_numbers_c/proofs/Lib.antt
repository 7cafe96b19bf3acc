pub mod Apart
pub mod Codes
