pub mod ByNumber
pub mod Elements
pub mod FilterMaps
pub mod Filters
pub mod Finds
pub mod Options
pub mod Pieces
pub mod Ranges
