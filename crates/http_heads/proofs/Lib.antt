pub mod Fronts
pub mod HeaderLoops
pub mod Lifts
pub mod Numbers
pub mod Room
pub mod Sizes
pub mod Targets
