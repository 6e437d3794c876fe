pub mod Below
pub mod Told
pub mod Passes
pub mod Together
