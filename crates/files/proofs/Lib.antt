-- Laws of the files' starts.
pub mod Starts
pub mod LastStart
