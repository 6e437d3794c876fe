pub mod Bodies
pub mod Cuttings
pub mod Fronts
pub mod Growth
