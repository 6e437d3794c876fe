pub mod Names
pub mod Table
pub mod Standing
pub mod Admission
