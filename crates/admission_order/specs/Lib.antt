pub mod Below
pub mod Turns
pub mod Admissions
