pub mod Faults
pub mod Floats
pub mod Items
pub mod Names
pub mod Plain
pub mod Stands
pub mod Texts
