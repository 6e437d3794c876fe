-- The crates below whose names those above take from here, each by its own name. Declares nothing.
pub use Rattle.clerk_desk.specs as clerk_desk
pub use Rattle.clerk_desk.specs.Below.office_step
pub use Rattle.clerk_desk.specs.Below.office_laws
pub use Rattle.json_front.specs as json_front
