-- The crates below whose names those above take from here, each by its own name. Declares nothing.
pub use Rattle.office_refusals.specs as office_refusals
pub use Rattle.office_refusals.specs.Below.office_step
