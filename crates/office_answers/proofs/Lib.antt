pub mod Below
pub mod ByDay
pub mod Dues
pub mod Whole
pub mod Turns
