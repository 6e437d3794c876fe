pub mod Known
pub mod Acts
pub mod Closings
pub mod LaterClosings
pub mod Reached
