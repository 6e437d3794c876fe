mod Grown
pub mod Numbered
