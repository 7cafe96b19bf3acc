-- Steps of the code, which contracts inside the library cite.
pub mod Adding
pub mod Events
pub mod Buffers
pub mod PathPlaces
pub mod Texts
pub mod Made
pub mod Holding
pub mod Removed
pub mod Dropped
pub mod Represents
pub mod Kept
pub mod Recs
pub mod Whole
pub mod Finished
