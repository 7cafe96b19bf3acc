-- Laws by subject: 64 bits and what is read of them, values of 64 bits, cells.
pub mod Wrapping
pub mod Below
pub mod Cells
