pub mod Changed
pub mod Order
pub mod Occupancy
pub mod Beginnings
pub mod Law
pub mod OrderLaw
pub mod UseLaw
pub mod Uses
