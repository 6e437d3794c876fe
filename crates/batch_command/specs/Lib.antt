pub mod Below
pub mod Output
pub mod Line
pub mod Answers
pub mod Batch
