pub mod Links
pub mod Seats
