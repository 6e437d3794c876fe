-- What a log knows of passes.
use Rattle.std.proofs.Common.{◌≡◌, ◌∙◌, refl, List, sym, subst}
use Rattle.std.specs.Prelude.{Option, Some, None, IfSome, IsSomeAnd}
use mathlib.Core.List.{IsPrefix}
use Rattle.book_rows.specs.declared.rows.ActRow.{ActRow}
use Rattle.desk_history.proofs.Fronts.{prefix_more, prefix_self}
use Rattle.desk_history.specs.declared.views.{NoteView.NoteView, PassView.PassView, Start.Start}
use Rattle.desk_history.specs.Moves.{noted}
use Rattle.http_front.specs.Together.{KnowsBeginning}

-- a beginning of a beginning
pub prefix_joins : (a b c : List ActRow) → IsPrefix a b → IsPrefix b c → IsPrefix a c
prefix_joins a b c first (rest, is) = subst (λ (l : List ActRow). IsPrefix a l) is (prefix_more a b rest first)

-- a note of a pass knows that pass
pub noted_knows : (note : NoteView) (pass : PassView) → note ≡ noted pass → KnowsBeginning note.start note.list pass
noted_knows note pass is = subst (λ (n : NoteView). KnowsBeginning n.start n.list pass) (sym is) (record { start_is = refl; front = prefix_self pass.list })

-- what goes on from a list knows what that one knew
pub knows_on : (start start_now : Start) (list list_now : List ActRow) (pass : PassView) → start_now ≡ start → IsPrefix list list_now
    → KnowsBeginning start list pass → KnowsBeginning start_now list_now pass
knows_on start start_now list list_now pass same front knows = record {
  start_is = knows.start_is ∙ sym same;
  front = prefix_joins pass.list list list_now knows.front front;
}

-- so does what goes on from the note in a log
pub log_knows : (log : Option NoteView) (start : Start) (list : List ActRow) (pass : PassView) → IfSome log (λ note. (note.start ≡ start) × IsPrefix note.list list)
    → IsSomeAnd log (λ note. KnowsBeginning note.start note.list pass) → KnowsBeginning start list pass
log_knows None start list pass told knows = absurd knows
log_knows (Some note) start list pass told knows = knows_on note.start start note.list list pass (sym told.0) told.1 knows
