-- What is kept of each household's records, once a record more is held.
use Rattle.office_register.proofs.Words.{◌≡◌, ◌∙◌, sym, ap, refl, ℕ, ◌+◌, ◌-◌, ◌≤◌, List, [], ◌∷◌, ◌++◌, arith, length, set, slice_set, length_push, nat_tests, Record, records_of, with_record}
use Rattle.std.specs.Prelude.{map}
use Rattle.std.proofs.lemmas.List.{map-set, map-append, set-append_right, get_or-set_same}

own_with : (households : List (List Record)) (r : Record) → 1 ≤ r.household → r.household ≤ length households →
    records_of (with_record households r) r.household ≡ records_of households r.household ++ r ∷ []
own_with households r first there =
    grind (arith, nat_tests, get_or-set_same households (r.household - 1) (records_of households r.household ++ r ∷ []) [])

module _ {X : Type 0} (f : List Record → X) (households : List (List Record)) (r : Record) (kept : List X) (are : kept ≡ map f households) where
  -- of a household that there is
  pub map_further : 1 ≤ r.household → r.household ≤ length households →
      slice_set kept (r.household - 1) (f (records_of (with_record households r) r.household)) ≡ map f (with_record households r)
  map_further first there =
      let own = records_of households r.household ++ r ∷ [] in
      ap (λ (records : List Record). slice_set kept (r.household - 1) (f records)) (own_with households r first there)
      ∙ ap (λ (values : List X). slice_set values (r.household - 1) (f own)) are
      ∙ sym (map-set f households (r.household - 1) own)

  -- of the household that comes next
  pub map_household : r.household ≡ length households + 1 →
      kept ++ f (records_of (with_record (households ++ [] ∷ []) r) r.household) ∷ [] ≡ map f (with_record (households ++ [] ∷ []) r)
  map_household next =
      let more = households ++ [] ∷ [] in
      let own = records_of more r.household ++ r ∷ [] in
      let none : List Record = [] in
      let last : r.household - 1 - length households ≡ 0 = omega (arith, next) in
      let placed : set more (r.household - 1) own ≡ households ++ own ∷ [] =
      set-append_right households (none ∷ []) (length households) (r.household - 1) own refl (omega (arith, next))
      ∙ ap (λ (place : ℕ). households ++ set (none ∷ []) place own) last in
      ap (λ (records : List Record). kept ++ f records ∷ []) (own_with more r (omega (arith, next)) (omega (arith, next, length_push households none)))
      ∙ ap (λ (values : List X). values ++ f own ∷ []) are
      ∙ sym (map-append f households (own ∷ []))
      ∙ ap (map f) (sym placed)
