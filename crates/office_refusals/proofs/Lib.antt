pub mod Below
pub mod FirstOf
pub mod Ordered
pub mod Begins
