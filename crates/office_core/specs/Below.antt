-- The crates below whose names those above take from here, each by its own name. Declares nothing.
pub use Rattle.office_acts.specs as office_acts
pub use Rattle.office_answers.specs as office_answers
pub use Rattle.book_replay.specs.Below.office_laws
pub use Rattle.office_answers.specs.Below.office_register
pub use Rattle.office_answers.specs.Below.office_step
