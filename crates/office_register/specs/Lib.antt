pub mod Below
pub mod Registered
pub mod View
pub mod Accepted
