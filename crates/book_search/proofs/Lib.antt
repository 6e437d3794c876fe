pub mod Words
pub mod Stretch
