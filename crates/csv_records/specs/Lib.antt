pub mod Records
pub mod Begins
pub mod Between
pub mod Laws
