pub mod Below
pub mod AsMany
pub mod Counted
pub mod Turn
pub mod Wanted
