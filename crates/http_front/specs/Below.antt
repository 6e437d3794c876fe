-- The crates below whose names those above take from here, each by its own name. Declares nothing.
pub use Rattle.clerk_desk.specs as clerk_desk
pub use Rattle.http_session.specs as http_session
