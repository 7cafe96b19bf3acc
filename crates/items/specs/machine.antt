-- Steps of the code, which contracts inside the library cite.
pub mod AtRecord
pub mod Labelled
pub mod Opened
pub mod NodePlaced
pub mod Filled
pub mod PropertyMade
pub mod Unbinding
pub mod Deleting
