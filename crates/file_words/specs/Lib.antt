pub mod meaning
pub mod machine
