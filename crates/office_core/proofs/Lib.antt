mod Turns
pub mod Grown
pub mod Judging
pub mod Found
pub mod Room
pub mod Replayed
