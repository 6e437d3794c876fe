pub mod Below
pub mod Basis
