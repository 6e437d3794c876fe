pub mod Behind
pub mod Complete
pub mod Endings
pub mod Streams
pub mod Whole
