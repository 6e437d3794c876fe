pub mod Known
pub mod Opening
pub mod Households
pub mod Closings
pub mod Changes
pub mod Reached
