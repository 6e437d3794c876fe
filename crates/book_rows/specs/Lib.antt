pub mod Fit
pub mod Book
pub mod Same
