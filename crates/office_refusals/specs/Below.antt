-- The crates below whose names those above take from here, each by its own name. Declares nothing.
pub use Rattle.office_step.specs as office_step
