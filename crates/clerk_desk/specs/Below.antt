-- The crates below whose names those above take from here, each by its own name. Declares nothing.
pub use Rattle.office_core.specs.Below.office_answers
pub use Rattle.office_core.specs as office_core
pub use Rattle.office_core.specs.Below.office_laws
pub use Rattle.office_core.specs.Below.office_step
