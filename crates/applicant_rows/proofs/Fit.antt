-- An office can be asked each row's call.
use Rattle.std.proofs.Common.{◌≡◌, ◌≤◌, ◌&&◌, ℕ, Bool, true, refl, subst, inl, inr, eqb, List, [], ◌∷◌, map, length, Option, Some, None, option_map, leb}
use Rattle.std.specs.Prelude.{All}
use Rattle.std.specs.{List.list_all, List.slice_split, Option.option_map_or}
use Rattle.std.proofs.lemmas.Bool.{and_parts, cases_Bool, le-leb}
use Rattle.std.proofs.lemmas.Option.{cond_some, none-some}
use Rattle.std.proofs.lemmas.List.Elements.{All-nil, All-cons}
use Rattle.days_core.specs.DayText.{◌>>=◌}
use Rattle.numerals.specs.Numerals.{is_numeral, number_between, number_of}
use Rattle.book_rows.specs.{Fit.is_name, Fit.is_within, Fit.are_preferences, declared.command.Command.Command}
use Rattle.office_step.specs.{declared.call.Call.Call, Step.is_fit_call}
use Rattle.csv_records.specs.Records.{records_under}
use Rattle.applicant_rows.specs.declared.row.ImportRow.{ImportRow}
use Rattle.applicant_rows.specs.Applicants.{accessible_from, applicants_in, call_from, each, header, is_fit_row, is_separator, name_from, numbers_from, preferences_from, row_from}

bind_some : {A B : Type 0} (o : Option A) (f : A → Option B) (y : B) → (o >>= f) ≡ Some y → (x : A) × (o ≡ Some x) × (f x ≡ Some y)
bind_some (Some x) f y e = (x, refl, e)
bind_some None f y e = absurd (none-some y e)

both : {x y : Bool} → x ≡ true → y ≡ true → (x && y) ≡ true
both p q = rw (p, q) refl

-- a number that is read lies in its range
within : (least most n : ℕ) (text : List ℕ) → number_between least most text ≡ Some n → is_within least most n ≡ true
unfolding number_between
within least most n text e =
    elim (cases_Bool (is_numeral text)) [
      | inl numeral ↦
          let found = cond_some (is_within least most (number_of text)) (number_of text) n (rw numeral at e) in
          subst (λ k. is_within least most k ≡ true) found.1 found.0
      | inr other ↦ absurd (none-some n (rw other at e))
    ]

named : (name text : List ℕ) → name_from text ≡ Some name → is_name 40 name ≡ true
named name text e =
    let found = cond_some (is_name 40 text) text name e in subst (λ t. is_name 40 t ≡ true) found.1 found.0

-- as many numbers as parts, each in the range of a preference
all_within : (parts : List (List ℕ)) (numbers : List ℕ) → each (number_between 1 16) parts ≡ Some numbers
    → (length numbers ≡ length parts) × (list_all (is_within 1 16) numbers ≡ true)
all_within [] numbers e =
    let is : [] ≡ numbers = cc in subst (λ (ns : List ℕ). (length ns ≡ 0) × (list_all (is_within 1 16) ns ≡ true)) is (refl, refl)
all_within (part ∷ parts) numbers e =
    let first = bind_some (number_between 1 16 part) (λ x. each (number_between 1 16) parts >>= λ xs. Some (x ∷ xs)) numbers e in
    let others = bind_some (each (number_between 1 16) parts) (λ xs. Some (first.0 ∷ xs)) numbers first.2 in
    let rest = all_within parts others.0 others.1 in
    let is : first.0 ∷ others.0 ≡ numbers = cc in
    subst (λ (ns : List ℕ). (length ns ≡ length (part ∷ parts)) × (list_all (is_within 1 16) ns ≡ true)) is
    (cc, rw (within 1 16 first.0 part first.1, rest.1) refl)

few_within : (parts : List (List ℕ)) (numbers : List ℕ) → numbers_from parts ≡ Some numbers → are_preferences numbers ≡ true
few_within parts numbers e =
    elim (cases_Bool (leb (length parts) 16)) [
      | inl few ↦ let found = all_within parts numbers (rw few at e) in rw (found.0, few, found.1) refl
      | inr many ↦ absurd (none-some numbers (rw many at e))
    ]

preferred : (numbers text : List ℕ) → preferences_from text ≡ Some numbers → are_preferences numbers ≡ true
preferred numbers text e =
    elim (cases_Bool (eqb (length text) 0)) [
      | inl empty ↦
          let is : Some [] ≡ Some numbers = rw empty at e in
          let same : [] ≡ numbers = cc in
          subst (λ (ns : List ℕ). are_preferences ns ≡ true) same refl
      | inr some ↦ few_within (slice_split is_separator text) numbers (rw some at e)
    ]

-- ---- the call

abbrev pub called : (clerk request : ℕ) (name : List ℕ) (size persons : ℕ) (accessible : Bool) (annual : ℕ) (preferences : List ℕ) → Call
called clerk request name size persons accessible annual preferences = record {
  clerk = clerk;
  request = request;
  command = Command.Apply (record { name = name; size = size; persons = persons; preferences = preferences; accessible = accessible; annual = annual });
}

module _ (clerk : ℕ) (low : 1 ≤ clerk) (high : clerk ≤ 9999) where
  seven_fit : (request name size persons accessible preferences annual : List ℕ) (call : Call)
      → call_from clerk (request ∷ name ∷ size ∷ persons ∷ accessible ∷ preferences ∷ annual ∷ []) ≡ Some call → is_fit_call call ≡ true
  seven_fit request name size persons accessible preferences annual call e =
      let f7 = λ (r : ℕ) (n : List ℕ) (s p : ℕ) (a : Bool) (u : ℕ) (l : List ℕ). Some (called clerk r n s p a u l) in
      let f6 = λ (r : ℕ) (n : List ℕ) (s p : ℕ) (a : Bool) (u : ℕ). preferences_from preferences >>= f7 r n s p a u in
      let f5 = λ (r : ℕ) (n : List ℕ) (s p : ℕ) (a : Bool). number_between 0 9999999 annual >>= f6 r n s p a in
      let f4 = λ (r : ℕ) (n : List ℕ) (s p : ℕ). accessible_from accessible >>= f5 r n s p in
      let f3 = λ (r : ℕ) (n : List ℕ) (s : ℕ). number_between s 16 persons >>= f4 r n s in
      let f2 = λ (r : ℕ) (n : List ℕ). number_between 1 12 size >>= f3 r n in
      let f1 = λ (r : ℕ). name_from name >>= f2 r in
      let a = bind_some (number_between 1 4294967295 request) f1 call e in
      let b = bind_some (name_from name) (f2 a.0) call a.2 in
      let c = bind_some (number_between 1 12 size) (f3 a.0 b.0) call b.2 in
      let d = bind_some (number_between c.0 16 persons) (f4 a.0 b.0 c.0) call c.2 in
      let g = bind_some (accessible_from accessible) (f5 a.0 b.0 c.0 d.0) call d.2 in
      let h = bind_some (number_between 0 9999999 annual) (f6 a.0 b.0 c.0 d.0 g.0) call g.2 in
      let l = bind_some (preferences_from preferences) (f7 a.0 b.0 c.0 d.0 g.0 h.0) call h.2 in
      let is : called clerk a.0 b.0 c.0 d.0 g.0 h.0 l.0 ≡ call = cc in
      subst (λ (k : Call). is_fit_call k ≡ true) is
      (both (both (le-leb 1 clerk low) (le-leb clerk 9999 high))
      (both (and_parts (leb 1 a.0) (leb a.0 4294967295) (within 1 4294967295 a.0 request a.1)).0
      (both (named b.0 name b.1) (both (within 1 12 c.0 size c.1) (both (within c.0 16 d.0 persons d.1)
      (both (preferred l.0 preferences l.1) (and_parts (leb 0 h.0) (leb h.0 9999999) (within 0 9999999 h.0 annual h.1)).1))))))

  fit_call : (fields : List (List ℕ)) (call : Call) → call_from clerk fields ≡ Some call → is_fit_call call ≡ true
  fit_call [] call e = absurd (none-some call e)
  fit_call (p ∷ []) call e = absurd (none-some call e)
  fit_call (p ∷ q ∷ []) call e = absurd (none-some call e)
  fit_call (p ∷ q ∷ r ∷ []) call e = absurd (none-some call e)
  fit_call (p ∷ q ∷ r ∷ s ∷ []) call e = absurd (none-some call e)
  fit_call (p ∷ q ∷ r ∷ s ∷ t ∷ []) call e = absurd (none-some call e)
  fit_call (p ∷ q ∷ r ∷ s ∷ t ∷ u ∷ []) call e = absurd (none-some call e)
  fit_call (p ∷ q ∷ r ∷ s ∷ t ∷ u ∷ v ∷ []) call e = seven_fit p q r s t u v call e
  fit_call (p ∷ q ∷ r ∷ s ∷ t ∷ u ∷ v ∷ w ∷ ws) call e = absurd (none-some call e)

  fit_row : (fields : List (List ℕ)) → is_fit_row (row_from clerk fields) ≡ true
  unfolding row_from
  fit_row fields = go (call_from clerk fields) refl
    where
      go : (found : Option Call) → call_from clerk fields ≡ found → is_fit_row (option_map_or ImportRow.Call found ImportRow.Bad) ≡ true
      go None e = refl
      go (Some call) e = fit_call fields call e

  fit_map : (records : List (List (List ℕ))) → All (λ row. is_fit_row row ≡ true) (map (row_from clerk) records)
  fit_map [] = All-nil _
  fit_map (fields ∷ records) = All-cons (λ row. is_fit_row row ≡ true) (row_from clerk fields) (map (row_from clerk) records) (fit_row fields) (fit_map records)

  pub rows_fit : (bytes : List ℕ) (rows : List ImportRow) → applicants_in clerk bytes ≡ Some rows → All (λ row. is_fit_row row ≡ true) rows
  rows_fit bytes rows e = go (records_under header bytes) e
    where
      go : (found : Option (List (List (List ℕ)))) → option_map (map (row_from clerk)) found ≡ Some rows → All (λ row. is_fit_row row ≡ true) rows
      go None e = absurd (none-some rows e)
      go (Some records) e =
          let is : map (row_from clerk) records ≡ rows = cc in
          subst (λ (rs : List ImportRow). All (λ row. is_fit_row row ≡ true) rs) is (fit_map records)
