-- The crates below whose names those above take from here, each by its own name. Declares nothing.
pub use Rattle.batch_command.proofs.Below.clerk_desk
