-- What was tried is of passes that were handed out, and each that is given back has just its own.
use Rattle.std.proofs.Common.{◌≡◌, ◌∙◌, sym, subst, subst₂, Option, ⊎_elim, ◌+◌, ◌-◌, ◌<◌, ℕ, zero, suc, arith, ap, refl, List, [], ◌∷◌, length}
use Rattle.std.specs.Prelude.{All, Contains, slice_index_or}
use Rattle.std.proofs.lemmas.Bool.{cases_lt}
use Rattle.std.proofs.lemmas.List.Elements.{All-contains_itself, All-head, All-tail}
use Rattle.book_rows.specs.{declared.rows.ActRow.ActRow, declared.rows.Batch.Batch, Book.Book}
use Rattle.desk_history.specs.declared.views.{Start.Start, PassView.PassView}
use Rattle.desk_history.specs.{Laws.EntriesAreOfTheNumber, Rule.AreOfPasses, Seen.tries_of}
use Rattle.shared_desk.specs.{Desk.HasItsOwn, Desk.IsFinished, Desk.IsFinishedWith, Passes.AreFresh}

-- a pass that waits has no try
none_waiting : (start : Start) (history : List ActRow) (tried : List Batch) (next : ℕ) (waiting : List PassView) → AreFresh start next waiting
    → All (HasItsOwn history tried) waiting → (k : ℕ) → k < length waiting → tries_of (next + k) tried ≡ []
none_waiting start history tried next [] fresh just k within = absurd (omega (arith, within))
none_waiting start history tried next (pass ∷ waiting) fresh just zero within =
    let is : next + 0 ≡ pass.number = (let number = fresh.0.number_is in omega (arith, number)) in
    ap (λ (n : ℕ). tries_of n tried) is ∙ ((All-head (HasItsOwn history tried) pass waiting just).own_tries ∙ fresh.0.tried)
none_waiting start history tried next (pass ∷ waiting) fresh just (suc k) within =
    let is : next + suc k ≡ (next + 1) + k = omega arith in
    ap (λ (n : ℕ). tries_of n tried) is
    ∙ none_waiting start history tried (next + 1) waiting fresh.1 (All-tail (HasItsOwn history tried) pass waiting just) k (omega (arith, within))

contains_none : {A : Type 0} (xs : List A) (x : A) → xs ≡ [] → Contains xs x → ⊥
contains_none xs x none (k, within, is) = let long : length xs ≡ 0 = ap length none in omega (arith, within, long)

-- of passes from 1 to 32 that were handed out or wait, the tries are of those that were handed out
pub of_those_handed_out : EntriesAreOfTheNumber → (start : Start) (made : ℕ) (history : List ActRow) (tried : List Batch) (waiting : List PassView) → AreFresh start (made + 1) waiting
    → made + length waiting ≡ 32 → AreOfPasses 33 tried → All (HasItsOwn history tried) waiting → AreOfPasses (made + 1) tried
of_those_handed_out laws start made history tried waiting fresh all of_passes just = λ k d within.
    let rows = slice_index_or tried k d in
    let bounds = of_passes k d within in
    let low = bounds.0 in
    let high = bounds.1 in
    let one = All-contains_itself tried k d within in (
      low,
      ⊎_elim (λ few. few) (λ over. absurd (contains_none (tries_of rows.act.session tried) rows
          (let is : rows.act.session ≡ (made + 1) + (rows.act.session - (made + 1)) = omega (arith, over) in
          ap (λ (n : ℕ). tries_of n tried) is ∙ none_waiting start history tried (made + 1) waiting fresh just (rows.act.session - (made + 1)) (omega (arith, over, high, all)))
          ((laws.tries rows.act.session tried rows).stands one refl)))
          (cases_lt rows.act.session (made + 1)),
    )

pub finished_with : (others came : List PassView) (pass : PassView) (made said : ℕ) (tables : Book) (told holds : Book → Type 0) (well sound tells : Type 0) (leaves : Option Book → Type 0)
    (history : List ActRow) (tried : List Batch) (last : IsFinished pass made tables told holds well sound tells leaves) → last.history ≡ history → last.tried ≡ tried →
    All (HasItsOwn history tried) came → came ≡ others → made ≡ said → IsFinishedWith others pass said tables told holds well sound tells leaves
finished_with others came pass made said tables told holds well sound tells leaves history tried last rows tries own same is =
    subst (λ (n : ℕ). IsFinishedWith others pass n tables told holds well sound tells leaves) is
    (record {
      end = last;
      own = subst (λ (them : List PassView). All (HasItsOwn last.history last.tried) them) same
          (subst₂ (λ (h : List ActRow) (t : List Batch). All (HasItsOwn h t) came) (sym rows) (sym tries) own);
    })
