-- Which unit is found by a number or a name, in plain facts.
use Rattle.rent_table.proofs.Words.{◌≡◌, ◌≢◌, ◌∙◌, sym, ap, ℕ, get_or, Bool, true, false, inl, inr, List, Some, None, find, same_text, other_text, option_map, eqb, UnitRow, unit_at, has_name, unit_named, HaveOwnNumbers, HaveOwnNames, find_own}
use Rattle.std.specs.Prelude.{◌↔◌, All, AllPairs, Contains}
use Rattle.std.proofs.lemmas.{List.Elements.All-contains_itself, Option.slice_get-get_or, Bool.cases_Bool, Bool.eq-eqb, Bool.eqb-true, Bool.eqb-false, Bool.ne_eqb}
use Rattle.list_laws.proofs.{Finds.find_holds, Finds.find_none, Finds.find_fails, Options.option_map_some, Options.option_map_none}

-- a unit of the list has a place in it
found_own : {K : Type 0} (key : UnitRow → K) (a : K) (passes : UnitRow → Bool) → ((unit : UnitRow) → passes unit ≡ true → key unit ≡ a) →
    (units : List UnitRow) → AllPairs (λ unit other. key unit ≢ key other) units → (unit : UnitRow) → Contains units unit → passes unit ≡ true → find passes units ≡ Some unit
found_own key a passes means units own unit (k, within, is) passed =
    find_own key a passes means units own k unit (slice_get-get_or units k unit within ∙ ap Some is) passed

pub found_by_number : (units : List UnitRow) (number : ℕ) (unit : UnitRow) → HaveOwnNumbers units →
    (unit_at units number ≡ Some unit) ↔ (Contains units unit × (unit.number ≡ number))
found_by_number units number unit own = (
  λ is. (let found = find_holds (λ (u : UnitRow). eqb u.number number) (Contains units) units unit is (All-contains_itself units) in (found.0, eqb-true unit.number number found.1)),
  λ (held, same). found_own (λ (u : UnitRow). u.number) number (λ (u : UnitRow). eqb u.number number) (λ u passed. eqb-true u.number number passed) units own unit held
      (eq-eqb unit.number number same),
)

pub no_number : (units : List UnitRow) (number : ℕ) → (unit_at units number ≡ None) ↔ All (λ unit. unit.number ≢ number) units
no_number units number = (
  λ none k d within. eqb-false _ _ (find_none (λ (u : UnitRow). eqb u.number number) units none k d within),
  λ others. find_fails (λ (u : UnitRow). eqb u.number number) units (λ k d within. ne_eqb _ _ (others k d within)),
)

-- a unit of that name has it byte for byte
is_named : (unit : UnitRow) (name : List ℕ) → unit.name ≡ name → has_name name unit ≡ true
is_named unit name same = elim (cases_Bool (has_name name unit)) [ inl is ↦ is | inr other ↦ absurd (other_text unit.name name (sym other) same) ]

pub found_by_name : (units : List UnitRow) (name : List ℕ) (number : ℕ) → HaveOwnNames units →
    (unit_named units name ≡ Some number) ↔ ((unit : UnitRow) × Contains units unit × (unit.name ≡ name) × (unit.number ≡ number))
found_by_name units name number own = (
  λ is. option_map_some (λ (u : UnitRow). u.number) (find (has_name name) units) number is
      (λ unit at same. (let found = find_holds (has_name name) (Contains units) units unit at (All-contains_itself units) in (unit, found.0, same_text unit.name name (sym found.1), same))),
  λ (unit, held, named, same). ap (option_map (λ (u : UnitRow). u.number))
      (found_own (λ (u : UnitRow). u.name) name (has_name name) (λ u passed. same_text u.name name (sym passed)) units own unit held (is_named unit name named))
      ∙ ap Some same,
)

-- and one of another name has not
is_unnamed : (unit : UnitRow) (name : List ℕ) → unit.name ≢ name → has_name name unit ≡ false
is_unnamed unit name other = elim (cases_Bool (has_name name unit)) [ inl is ↦ absurd (other (same_text unit.name name (sym is))) | inr is ↦ is ]

pub no_name : (units : List UnitRow) (name : List ℕ) → (unit_named units name ≡ None) ↔ All (λ unit. unit.name ≢ name) units
no_name units name = (
  λ none k d within. other_text _ _ (sym (find_none (has_name name) units (option_map_none (λ (u : UnitRow). u.number) (find (has_name name) units) none) k d within)),
  λ others. ap (option_map (λ (u : UnitRow). u.number)) (find_fails (has_name name) units (λ k d within. is_unnamed (get_or units k d) name (others k d within))),
)
