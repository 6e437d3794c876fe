-- What lives once a record more is held.
use Rattle.tenancy_rules.proofs.Words.{◌≡◌, ap, ℕ, ◌<◌, Bool, true, false, List, [], ◌∷◌, ◌++◌, Some, None, arith, ◌==◌, ◌&&◌, ◌||◌, not, All, if◌then◌else◌, list_any, ne_eqb, nat_tests, list_any-append, list_any_none, filter-append, filter_agree, All-push, Record, is_withdrawal, is_live, live_records, without, listed, ChangeIsWhatLives, filter-filter, common_steps}

-- a record that lived lives on where the new one doesn't name it
lives_on : (records : List Record) (held r : Record) → is_live (records ++ held ∷ []) r ≡ (is_live records r && not (r.number == held.corrects))
lives_on records held r = rw list_any-append (by_tests (is_withdrawal r.kind) (list_any (λ other. other.corrects == r.number) records) held.corrects r.number)
  where
    by_tests : (withdraws named : Bool) (corrects number : ℕ) →
        (not withdraws && not (named || ((corrects == number) || false))) ≡ ((not withdraws && not named) && not (number == corrects))
    by_tests withdraws named corrects number = grind (arith, nat_tests, common_steps)

-- the new record lives unless it is a withdrawal
lives_itself : (records : List Record) (held : Record) → All (λ r. r.corrects < held.number) records → held.corrects < held.number →
    is_live (records ++ held ∷ []) held ≡ not (is_withdrawal held.kind)
lives_itself records held smaller own_smaller =
    let unnamed =
    list_any_none (λ other. other.corrects == held.number) (records ++ held ∷ [])
    (λ k d within. ne_eqb _ _ (λ same. absurd (omega (arith, same, All-push (λ r. r.corrects < held.number) records held smaller own_smaller k d within)))) in
    rw unnamed (by_kind (is_withdrawal held.kind))
  where
    by_kind : (withdraws : Bool) → (not withdraws && true) ≡ not withdraws
    by_kind withdraws = grind (arith, common_steps)

pub change_is_what_lives : (records : List Record) (held : Record) → All (λ r. r.corrects < held.number) records → held.corrects < held.number →
    ChangeIsWhatLives records held
change_is_what_lives records held smaller own_smaller =
    let kept = filter_agree (is_live (records ++ held ∷ [])) (λ r. is_live records r && not (r.number == held.corrects)) (lives_on records held) records in
    rw (filter-append, kept, ← filter-filter (λ r. not (r.number == held.corrects)) (is_live records) records, lives_itself records held smaller own_smaller)
    (ap (λ (added : List Record). without held.corrects (live_records records) ++ added) (by_withdrawal (is_withdrawal held.kind)))
  where
    by_withdrawal : (withdraws : Bool) → (if not withdraws then held ∷ [] else []) ≡ listed (if withdraws then None else Some held)
    by_withdrawal withdraws = grind (arith, common_steps)
