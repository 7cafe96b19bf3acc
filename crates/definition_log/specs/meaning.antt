-- What a reader must believe.
pub mod Contents
pub mod Record
pub mod ReadBack
pub mod Sound
pub mod SoundAnswer
pub mod Answer
pub mod Written
pub mod Alike
pub mod Pinned
