pub mod Below
pub mod Bounds
pub mod Accepts
pub mod Ready
