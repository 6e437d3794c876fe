-- A unit whose number and name are new leaves each unit its own.
use Rattle.rent_table.proofs.Words.{◌≡◌, ◌≢◌, sym, List, [], ◌∷◌, ◌++◌, length, None, find, refl, ℕ, eqb, other_text, UnitRow, has_name, number_of, unit_at, unit_named, HaveOwnNumbers, HaveOwnNames}
use Rattle.std.proofs.lemmas.{Bool.eqb-false, List.Quantifiers.all_pairs_push}
use Rattle.row_index.specs.{declared.index.Entry.Entry, Index.with_entry, Index.index_of, Laws.IndexGrows}
use Rattle.list_laws.proofs.{Finds.find_none, Options.option_map_none}

-- a unit with a new number leaves each its own number
pub HaveOwnNumbers-push : (units : List UnitRow) (unit : UnitRow) → HaveOwnNumbers units → unit_at units unit.number ≡ None →
    HaveOwnNumbers (units ++ unit ∷ [])
HaveOwnNumbers-push units unit own new =
    all_pairs_push (λ unit other. unit.number ≢ other.number) units unit own
    (λ k d within. eqb-false _ _ (find_none (λ (other : UnitRow). eqb other.number unit.number) units new k d within))

-- a unit with a new name leaves each its own name
pub HaveOwnNames-push : (units : List UnitRow) (unit : UnitRow) → HaveOwnNames units → unit_named units unit.name ≡ None →
    HaveOwnNames (units ++ unit ∷ [])
HaveOwnNames-push units unit own new =
    let unnamed : find (has_name unit.name) units ≡ None = option_map_none (λ other. other.number) (find (has_name unit.name) units) new in
    all_pairs_push (λ unit other. unit.name ≢ other.name) units unit own
    (λ k d within. other_text _ _ (sym (find_none (has_name unit.name) units unnamed k d within)))

-- and its entry comes into the index by number
pub indexed_next : (units : List UnitRow) (unit : UnitRow) (entries more : List Entry) (key place : ℕ) → entries ≡ index_of number_of units → IndexGrows UnitRow →
    key ≡ number_of unit → place ≡ length units → more ≡ with_entry entries (record { key = key; place = place }) → more ≡ index_of number_of (units ++ unit ∷ [])
indexed_next units unit entries more key place same law its at added = rw (added, same, its, at, law number_of units unit) refl
