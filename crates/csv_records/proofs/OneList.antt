-- A text has one list of records.
use Rattle.std.proofs.Common.{◌≡◌, ◌∙◌, ◌+◌, ◌<◌, ◌≤◌, ◌++◌, ◌==◌, ◌&&◌, ℕ, zero, suc, Bool, cond, true, false, refl, sym, ap, ap₂, subst, inl, inr, pred, arith, List, [], ◌∷◌, length, Some, None}
use Rattle.std.proofs.lemmas.Bool.{cases_Bool, false≢true}
use Rattle.std.proofs.lemmas.Option.{none-some, same_Some}
use Rattle.csv.specs.declared.parser.Config.{Config}
use Rattle.csv.specs.declared.parser.Terminator.{Terminator}
use Rattle.csv.specs.declared.parser.Terminator.TheVariants as term
use Rattle.csv.specs.declared.parser.State.{State}
use Rattle.csv.specs.declared.parser.State.TheVariants as st
use Rattle.csv.specs.declared.parser.Action.{Action}
use Rattle.csv.specs.declared.parser.Action.TheVariants as act
use Rattle.csv.specs.Machine.{Read, after_end, carriage_return, ends_at_end, ends_with, is_byte, line_feed, field_after, fields_after, in_field, is_end, next_record, start_field, start_record, step}
use Rattle.csv.specs.Reading.{AreRecords, Reached, records, records_from, records_next}

-- where a byte ends a record, the state after it has none begun
record EndsClean (p : State × Action) : Type 0 where
  clean : is_end p.1 ≡ true → ends_at_end p.0 ≡ false

either : (b : Bool) (p q : State × Action) → EndsClean p → EndsClean q → EndsClean (cond b p q)
either true p q a b = a
either false p q a b = b

after_end_clean : (t : Terminator) (c : ℕ) → ends_at_end (after_end t c) ≡ false
after_end_clean term.CRLF c = go (c == carriage_return)
  where
    go : (b : Bool) → ends_at_end (cond b st.AfterCr st.StartRecord) ≡ false
    go true = refl
    go false = refl
after_end_clean (term.Any t) c = refl

no_end : (s : State) (a : Action) → is_end a ≡ false → EndsClean (s, a)
no_end s a e = record { clean = λ h. absurd (false≢true (sym e ∙ h)) }

in_field_clean : (cfg : Config) (c : ℕ) → EndsClean (in_field cfg c)
in_field_clean cfg c =
    either (c == cfg.delimiter) _ _ (no_end st.StartField act.EndField refl)
    (either (ends_with cfg.terminator c) (after_end cfg.terminator c, act.EndRecord) _ (record { clean = λ _. after_end_clean cfg.terminator c }) (no_end st.InField act.Copy refl))

start_field_clean : (cfg : Config) (c : ℕ) → EndsClean (start_field cfg c)
start_field_clean cfg c = either (cfg.quoting && (c == cfg.quote)) _ _ (no_end st.InQuoted act.Skip refl) (in_field_clean cfg c)

start_record_clean : (cfg : Config) (c : ℕ) → EndsClean (start_record cfg c)
start_record_clean cfg c =
    either (ends_with cfg.terminator c) _ _ (no_end st.StartRecord act.Skip refl)
    (either (is_byte cfg.comment c) _ _ (no_end st.InComment act.Skip refl) (start_field_clean cfg c))

step_clean : (cfg : Config) (s : State) (c : ℕ) → EndsClean (step cfg s c)
step_clean cfg st.StartRecord c = start_record_clean cfg c
step_clean cfg st.StartField c = start_field_clean cfg c
step_clean cfg st.InField c = in_field_clean cfg c
step_clean cfg st.InQuoted c =
    either (cfg.quoting && (c == cfg.quote)) _ _ (no_end st.AfterQuote act.Skip refl)
    (either (cfg.quoting && is_byte cfg.escape c) _ _ (no_end st.InEscape act.Skip refl) (no_end st.InQuoted act.Copy refl))
step_clean cfg st.InEscape c = no_end st.InQuoted act.Copy refl
step_clean cfg st.AfterQuote c =
    either (cfg.quoting && cfg.double_quote && (c == cfg.quote)) _ _ (no_end st.InQuoted act.Copy refl) (in_field_clean cfg c)
step_clean cfg st.InComment c = either (c == line_feed) _ _ (no_end st.StartRecord act.Skip refl) (no_end st.InComment act.Skip refl)
step_clean cfg st.AfterCr c = either (c == line_feed) _ _ (no_end st.StartRecord act.Skip refl) (start_record_clean cfg c)

-- a record leaves none begun, and takes a byte where there is one
record_leaves : (cfg : Config) (s : State) (fields : List (List ℕ)) (field text : List ℕ) (p : Read) → next_record cfg s fields field text ≡ Some p
    → (ends_at_end p.1 ≡ false) × (length p.2 ≤ pred (length text))
unfolding next_record
record_leaves cfg s fields field [] p e =
    elim (cases_Bool (ends_at_end s)) [
      | inl ends ↦
          let h = rw ends at e in
          let is : ◌≡◌ {A = Read} (fields ++ (field ∷ []), st.StartRecord, []) p = same_Some _ _ h in
          subst (λ (q : Read). (ends_at_end q.1 ≡ false) × (length q.2 ≤ 0)) is (refl, omega arith)
      | inr open_ ↦ absurd (none-some p (rw open_ at e))
    ]
record_leaves cfg s fields field (c ∷ rest) p e =
    elim (cases_Bool (is_end (step cfg s c).1)) [
      | inl ends ↦
          let h = rw ends at e in
          let is : ◌≡◌ {A = Read} (fields_after (step cfg s c).1 fields field, (step cfg s c).0, rest) p = same_Some _ _ h in
          subst (λ (q : Read). (ends_at_end q.1 ≡ false) × (length q.2 ≤ length rest)) is ((step_clean cfg s c).clean ends, omega arith)
      | inr goes ↦
          let h = rw goes at e in
          let more = record_leaves cfg (step cfg s c).0 (fields_after (step cfg s c).1 fields field) (field_after (step cfg s c).1 c field) rest p h in
          (more.0, omega (arith, more.1))
    ]

record_takes : (cfg : Config) (s : State) (text : List ℕ) (p : Read) → ends_at_end s ≡ false → next_record cfg s [] [] text ≡ Some p → length p.2 < length text
unfolding next_record
record_takes cfg s [] p clean e = absurd (none-some p (rw clean at e))
record_takes cfg s (c ∷ rest) p clean e = let h = record_leaves cfg s [] [] (c ∷ rest) p e in omega (arith, h.1)

-- enough turns find all records that the steps find
enough : (cfg : Config) (turns : ℕ) (s s2 : State) (text rest : List ℕ) (rows : List (List (List ℕ))) → length text < turns → ends_at_end s ≡ false
    → Reached cfg s text rows s2 rest → next_record cfg s2 [] [] rest ≡ None → records_from cfg turns s text ≡ rows
unfolding Reached records_from
enough cfg zero s s2 text rest rows fits clean reached none = absurd (omega arith)
enough cfg (suc turns) s s2 text rest [] fits clean reached none =
    let at_start : next_record cfg s [] [] text ≡ None = rw (reached.0, reached.1) none in
    ap (records_next (records_from cfg turns)) at_start
enough cfg (suc turns) s s2 text rest (row ∷ rows) fits clean (p, next, is, after) none =
    let takes = record_takes cfg s text p clean next in
    let leaves = record_leaves cfg s [] [] text p next in
    ap (records_next (records_from cfg turns)) next
    ∙ ap₂ (λ (x : List (List ℕ)) (xs : List (List (List ℕ))). x ∷ xs) (sym is) (enough cfg turns p.1 s2 p.2 rest rows (omega arith) leaves.0 after none)

pub all_records : (cfg : Config) (text : List ℕ) (rows : List (List (List ℕ))) → AreRecords cfg st.StartRecord text rows → records cfg text ≡ rows
all_records cfg text rows (s2, rest, reached, none) =
    enough cfg (length text + 1) st.StartRecord s2 text rest rows (omega arith) refl reached none
