-- The reply to an act that made a unit, by the unit's name.
use Rattle.office_laws.proofs.Words.{◌≡◌, ◌∙◌, sym, ap, refl, ℕ, ◌+◌, inl, inr, arith, List, [], ◌∷◌, ◌++◌, Some, None, length, bytes_decides, same_Some, length_push, Contains-push_cases, find-append, UnitRow, has_name, unit_named, UnitAct, ActRow, Batch, Book, appended, command_in, Capacity, acts_of, unit_in, unit_row, units_of, known_of, acts_up_to, IsAppended, IsReached, reached_empty, reached_more, UnitReplies, option_map_none, common_steps, Command}
use Rattle.office_laws.proofs.{Inversion.passes, Grown.units-more, Reached.act_made, Reached.acts_appended, Reached.books_are_kept, Replies.acts_stay, Replies.numbered_there, Replies.whole}
use Rattle.office_laws.proofs.at_hand.unit_replies.Goals as goal

-- ---- names

named_earlier : (units more : List UnitRow) (name : List ℕ) (number : ℕ) → unit_named units name ≡ Some number → unit_named (units ++ more) name ≡ Some number
named_earlier units more name number is = rw (find-append (has_name name) units more) (grind (arith, common_steps, is))

named_next : (units : List UnitRow) (unit : UnitRow) → unit_named units unit.name ≡ None → unit_named (units ++ unit ∷ []) unit.name ≡ Some unit.number
named_next units unit none =
    rw (find-append (has_name unit.name) units (unit ∷ []), option_map_none _ _ none, (bytes_decides unit.name unit.name).1 refl) refl

-- ---- one act more

new_is_named : (capacity : Capacity) (book : Book) (rows : Batch) → IsReached capacity book → (appends : IsAppended capacity book rows) →
    (unit : UnitAct) → appends.call.command ≡ Command.Unit unit →
    unit_named (known_of (appended book rows)).units unit.name ≡ Some (length (units_of (acts_up_to (appended book rows) rows.act.n)))
new_is_named capacity book rows reached appends unit is =
    let units : List UnitRow = (known_of book).units in
    let made : UnitRow = unit_row (length units + 1) unit in
    rw (whole capacity book rows reached appends, acts_appended appends, units-more (acts_of book.acts) (act_made appends), ap unit_in is, length_push units made)
    (named_next units made (option_map_none _ _ (rw is at (passes capacity book rows appends).name_taken)))

unit_replies : UnitReplies
unit_replies capacity _ reached_empty row there unit is = absurd (omega (arith, there.1))
unit_replies capacity _ (reached_more {book} {rows} reached appends) row there unit is = elim (Contains-push_cases book.acts rows.act row there) [
  | inl before ↦
      (let stay = acts_stay capacity book rows reached appends row.n (numbered_there book.acts (books_are_kept capacity book reached).acts row before) in
      rw (stay, acts_appended appends, units-more (acts_of book.acts) (act_made appends))
      (named_earlier (known_of book).units _ unit.name _ (unit_replies capacity book reached row before unit is)))
  | inr last ↦
      rw (← last)
      (new_is_named capacity book rows reached appends unit (same_Some _ _ (sym appends.read ∙ ap (λ (row : ActRow). command_in row.body) last ∙ is)))
]

pub returns : goal.returns
returns c = unit_replies
