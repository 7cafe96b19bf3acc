-- Laws of the search: bytes tested one by one, their marks, the word loaded, trailing zeros, the walk over words, and what it finds.
pub mod Bytes
pub mod Marks
pub mod Loads
pub mod Zeros
pub mod Search
pub mod First
