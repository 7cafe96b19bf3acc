-- Steps of the code, which contracts inside the library cite.
pub mod Lists
pub mod Pass
pub mod Table
pub mod Looked
