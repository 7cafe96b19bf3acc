-- What a reader must believe.
pub mod Code
pub mod Byte
pub mod Text
pub mod Lists
pub mod Path
pub mod Reading
pub mod Number
pub mod Octal
pub mod Expression
pub mod Cell
pub mod Bytestring
pub mod Reference
