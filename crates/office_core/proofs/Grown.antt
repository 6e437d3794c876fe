-- An office once the rows of one more act are there.
use Rattle.std.proofs.Common.{◌≡◌, ◌≤◌, ◌<◌, ℕ, List, [], ◌∷◌, ◌++◌, length, Option, Some, None, sym, subst, refl, arith, append-nil}
use Rattle.std.specs.Prelude.{All, IfSome, option_to_list}
use Rattle.std.proofs.lemmas.{List.get_or_push, List.length_push, List.Elements.All-push, Bool.and_parts}
use Rattle.days_core.specs.OfficeDays.{last_office_day}
use Rattle.record_history.specs.{declared.records.Record.Record, Held.IsWithin}
use Rattle.book_rows.specs.{declared.rows.ActRow.ActRow, declared.rows.Batch.Batch, Fit.is_fit, Book.Book, Book.appended}
use Rattle.row_index.specs.{declared.index.Entry.Entry, Index.index_of, Index.with_entry, Index.request_key, Laws.IndexGrows}
use Rattle.book_replay.specs.Below.book_search.Requests.{act_key}
use Rattle.office_answers.specs.Below.office_step.{declared.call.Capacity.Capacity, Known.Known, Known.known_of, After.known_after, Step.IsAppended, Step.IsReached, Step.reached_more}
use Rattle.book_replay.specs.Below.office_laws.{Accepted.Accepted, Accepted.AppendedIsAccepted, Kept.BooksAreKept, Kept.IsOfOffice, After.KnownAfter}
use Rattle.office_answers.specs.Below.office_register.Accepted.{IsAccepted}
use Rattle.office_core.specs.Planned.{Planned, IsPlannedFor}

all_last : {X : Type 0} (P : X → Type 0) (xs : List X) (x : X) → All P (xs ++ x ∷ []) → P x
all_last P xs x all =
    subst P (get_or_push xs x x (length xs) refl)
    (all (length xs) x (let long = length_push xs x in let within : length xs < length (xs ++ x ∷ []) = omega arith in within))

-- the day of an act comes by 2099-12-31
lived : (capacity : Capacity) (book : Book) (rows : Batch) → BooksAreKept → IsReached capacity book → IsAppended capacity book rows → rows.act.day ≤ last_office_day
lived capacity book rows kept reached appends =
    (all_last (λ (row : ActRow). IsOfOffice row.day) book.acts rows.act (kept capacity (appended book rows) (reached_more reached appends)).acts.years).most

-- the act of the step comes next for what is known
pub accepted_next : (capacity : Capacity) (book : Book) (step : Planned) (known : Known) → capacity.acts ≤ 100000 → IsReached capacity book → known ≡ known_of book →
    IsPlannedFor capacity book step → AppendedIsAccepted → BooksAreKept → IsAccepted known step.asked step.rows.made
accepted_next capacity book step known few reached same planned law kept =
    rw (same, ← planned.asked) (record {
      most = capacity.acts;
      today = step.rows.act.day;
      few = few;
      lived = lived capacity book step.rows kept reached planned.appends;
      fit = (and_parts _ (is_fit planned.appends.call.command) (and_parts _ _ planned.appends.fit).1).1;
      free = accepted.is_allowed;
      is_made = accepted.made;
    })
  where
    accepted : Accepted capacity book planned.appends.call step.rows
    accepted = law capacity book step.rows planned.appends

-- what is known after the act is what the longer book gives
pub known_next : (capacity : Capacity) (book longer : Book) (step : Planned) (known after : Known) → IsReached capacity book → known ≡ known_of book →
    IsPlannedFor capacity book step → KnownAfter → longer ≡ appended book step.rows → after ≡ known_after known step.asked step.rows.made → after ≡ known_of longer
known_next capacity book longer step known after reached same planned law long is =
    rw (is, same, long, law capacity book step.rows reached planned.appends, planned.asked) refl

pub records_next : (records : List Record) (made : Option Record) → All IsWithin records → IfSome made IsWithin → All IsWithin (records ++ option_to_list made)
records_next records None all within = subst (All IsWithin) (sym (append-nil records)) all
records_next records (Some r) all within = All-push IsWithin records r all within

-- and so is the index of requests
pub indexed_next : (book longer : Book) (rows : Batch) (entries more : List Entry) (key place : ℕ) → entries ≡ index_of act_key book.acts → IndexGrows ActRow →
    longer ≡ appended book rows → key ≡ request_key rows.act.clerk rows.act.request → place ≡ length book.acts →
    more ≡ with_entry entries (record { key = key; place = place }) → more ≡ index_of act_key longer.acts
indexed_next book longer rows entries more key place same law long is stands added = rw (added, same, is, stands, long, law act_key book.acts rows.act) refl
