-- Steps of the code, which contracts inside the library cite.
pub mod Good
pub mod Limits
pub mod Walk
pub mod Parts
pub mod ChainLeft
