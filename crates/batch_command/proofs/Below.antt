-- The crates below whose names those above take from here, each by its own name. Declares nothing.
pub use Rattle.clerk_desk.proofs as clerk_desk
