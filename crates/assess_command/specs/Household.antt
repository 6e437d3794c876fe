-- The assess object: the day, the passbook rate and the rents of an assessment, and the facts of the household.
use Rattle.std.specs.Prelude.{ℕ, List, [], ◌∷◌, Result, codes}
use Rattle.serde_json.specs.Data.{Data}
use Rattle.json_form.specs.Form.{◌>>=◌, fit, data_from, is_object_at, field, number_at, day_at, closed}
use Rattle.facts_core.specs.Facts.{facts_at}
use Rattle.assess_command.specs.declared.household.Household.{Household}

abbrev pub household_names : List (List ℕ)
household_names = codes "day" ∷ codes "passbook" ∷ codes "contract_rent" ∷ codes "utility" ∷ codes "facts" ∷ []

unfoldable pub household_at : Data → Result Household (List ℕ)
household_at d = do
  _ ← is_object_at d
  day ← field (codes "day") day_at d
  passbook ← field (codes "passbook") (number_at 0 10000) d
  contract_rent ← field (codes "contract_rent") (number_at 0 99999) d
  utility ← field (codes "utility") (number_at 0 9999) d
  facts ← field (codes "facts") facts_at d
  closed household_names (record { day = day; passbook = passbook; rents = record { contract_rent = contract_rent; utility = utility }; facts = facts }) d

-- the household that the bytes are, or the first bad path: the empty one where they are no JSON
abbrev pub household_from : List ℕ → Result Household (List ℕ)
household_from bytes = fit (data_from bytes) >>= household_at
