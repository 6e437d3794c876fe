pub mod Below
pub mod Words
pub mod InPlace
pub mod Gathered
pub mod Again
pub mod Reached
pub mod Compared
