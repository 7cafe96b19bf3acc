-- Steps of the code.
pub mod Front
