-- The crates below whose names those above take from here, each by its own name. Declares nothing.
pub use Rattle.office_register.specs.Below.office_refusals
pub use Rattle.office_register.specs as office_register
pub use Rattle.office_register.specs.Below.office_step
