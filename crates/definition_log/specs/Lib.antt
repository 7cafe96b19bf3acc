pub mod meaning
pub mod machine
pub mod examples
