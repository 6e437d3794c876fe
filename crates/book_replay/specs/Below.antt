-- The crates below whose names those above take from here, each by its own name. Declares nothing.
pub use Rattle.book_search.specs as book_search
pub use Rattle.command_forms.specs as command_forms
pub use Rattle.office_laws.specs as office_laws
