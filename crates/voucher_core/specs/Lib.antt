pub mod Certified
pub mod Lines
pub mod Law
pub mod Naming
pub mod EachRun
pub mod Book
pub mod Walk
