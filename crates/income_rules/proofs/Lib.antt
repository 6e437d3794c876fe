pub mod Words
pub mod Kept
pub mod Sums
pub mod Fits
pub mod WholeSums
pub mod WholeListLaw
