pub mod Torn
