-- Laws of the files' numbers in a log.
pub mod Agree
pub mod PutOne
pub mod FilesWritten
pub mod FilesExample
pub mod OneFile
