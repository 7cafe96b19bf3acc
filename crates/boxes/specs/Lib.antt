pub mod meaning
pub mod examples
