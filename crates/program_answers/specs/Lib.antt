pub mod Answer
pub mod Opening
pub mod Keeping
