-- The crates below whose names those above take from here, each by its own name. Declares nothing.
pub use Rattle.admission_order.specs.Below.office_register
pub use Rattle.admission_order.specs.Below.office_step
