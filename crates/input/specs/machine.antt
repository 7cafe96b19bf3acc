-- Steps of the code, which contracts inside the library cite.
pub mod At
pub mod Fits
pub mod Linked
pub mod Read
pub mod Evaluation
pub mod NameRead
pub mod PhandleRead
pub mod Reported
pub mod ValueRead
pub mod ChainLeft
pub mod Rising
pub mod RowsPass
pub mod OfRecord
