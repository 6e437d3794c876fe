-- The crates below whose names those above take from here, each by its own name. Declares nothing.
pub use Rattle.office_refusals.proofs as office_refusals
pub use Rattle.office_refusals.proofs.Below.office_step
