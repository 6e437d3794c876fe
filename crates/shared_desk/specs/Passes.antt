-- A desk as it is opened, and its passes.
use Rattle.std.specs.Prelude.{◌≡◌, ⊤, ℕ, ◌+◌, List, [], ◌∷◌}
use Rattle.desk_history.specs.declared.views.{Start.Start, PassView.PassView}

-- a desk as contracts see it: its start, and how many passes it has handed out
pub record DeskView : Type 0 where
  pub start : Start
  pub made : ℕ

-- a new pass of that number: it has seen the opening acts alone, and tried nothing
pub record IsFresh (start : Start) (number : ℕ) (pass : PassView) : Type 0 where
  pub number_is : pass.number ≡ number
  pub start_is : pass.start ≡ start
  pub list : pass.list ≡ []
  pub tried : pass.tried ≡ []
  pub left : pass.left ≡ pass.found

-- new passes, with the numbers from the next one on
abbrev pub AreFresh : Start → ℕ → List PassView → Type 0
AreFresh start next [] = ⊤
AreFresh start next (pass ∷ passes) = IsFresh start next pass × AreFresh start (next + 1) passes
