-- Steps of the code, which contracts inside the library cite.
pub mod Held
