-- A history is opened, passes are handed out, come in and go back.
use Rattle.std.proofs.Common.{◌≡◌, ◌≢◌, inl, inr, ℕ, zero, suc, ◌<◌, ◌≤◌, List, [], ◌∷◌, length, refl, sym, subst, subst₂, ◌∙◌, arith}
use Rattle.std.specs.Prelude.{slice_index, slice_set}
use mathlib.Core.Option.{some, some-ne-none}
use lib.ListN.{get_elem?}
use Rattle.std.proofs.lemmas.List.{append-nil}
use Rattle.std.proofs.lemmas.List.Elements.{All-nil}
use Rattle.atomic_table.specs.Table.{Me, Allows, Splits, Joins, keeps}
use Rattle.atomic_table.proofs.Lists.{set_else}
use Rattle.book_rows.specs.declared.rows.ActRow.{ActRow}
use Rattle.book_rows.specs.declared.rows.Batch.{Batch}
use Rattle.desk_history.specs.declared.views.Start.{Start}
use Rattle.desk_history.specs.declared.views.BookView.{BookView}
use Rattle.desk_history.specs.declared.views.PassView.{PassView}
use Rattle.desk_history.specs.declared.views.NoteView.{NoteView}
use Rattle.desk_history.specs.declared.views.HoldingView.{HoldingView}
use Rattle.desk_history.specs.declared.views.View.{View}
use Rattle.desk_history.specs.declared.views.View.TheVariants.{Blank, Free, Holding, Home, Learning, Noted, Merging, Spent}
use Rattle.desk_history.specs.Seen.{entries_of, book_of, holding_of, pass_of}
use Rattle.desk_history.specs.Moves.{opened, one_handed_out, new_pass, holding, returned}
use Rattle.desk_history.specs.Rule.{IsNoteOf, IsHome, IsHeld, AreOfPasses, Fits, Keeps, Turns}
use Rattle.desk_history.proofs.Steps.{Rule, others_move, at_free, at_holding}
use Rattle.desk_history.proofs.Fronts.{prefix_self}
use Rattle.desk_history.proofs.Entries.{of_rows, those_none}
use Rattle.desk_history.proofs.Places.{reset, pushed, moved, moved_here, moved_else, word_set}

-- ---- opening

opens : (slots place : ℕ) (start : Start) (faults : ℕ) →
    Allows Rule slots place (Blank, []) 0 (λ n. n) (Turns (Blank, []) (Free (opened start faults)))
opens slots place start faults = λ s rule homes at within.
    (Free (opened start faults), keeps, tt, by_rule s.words s.views rule at, (refl, tt))
  where
    first : (i : ℕ) (v : View) → get_elem? (Blank ∷ []) i ≡ some v → i ≡ 0
    first zero v e = refl
    first (suc i) v e = absurd (some-ne-none v (sym e))

    by_rule : (words : List ℕ) (views : List View) → Keeps words views → get_elem? views place ≡ some Blank →
        Keeps (slice_set words 0 (slice_index words 0)) (slice_set views place (Free (opened start faults)))
    by_rule words views (inr open_now) at = absurd (open_now.3.fits place Blank at)
    by_rule words views (inl new) at =
        let here : place ≡ 0 = first place Blank (subst (λ (l : List View). get_elem? l place ≡ some Blank) new.1 at) in
        inr (
          place,
          opened start faults,
          (λ n. n),
          record {
            word = word_set words 0 0 (λ n. n) new.0 refl;
            first = omega arith;
            below = All-nil (λ (row : ActRow). row.session < 1);
            tried = All-nil (λ (rows : Batch). (1 ≤ rows.act.session) × (rows.act.session < 1));
            fits = reset (λ j v. j ≡ place) (Fits place (opened start faults) (λ n. n)) views place (Free (opened start faults))
                (λ j v there. first j v (subst (λ (l : List View). get_elem? l j ≡ some v) new.1 there) ∙ sym here)
                (λ j v away same. absurd (away same))
                (refl, refl);
          },
        )

pub opens_as : (slots place : ℕ) (me : Me (Unit {0}) View) (want : View) (start : Start) (faults : ℕ) → me ≡ (Blank, []) →
    want ≡ Free (opened start faults) → Allows Rule slots place me 0 (λ n. n) (Turns me want)
opens_as slots place me want start faults is wanted =
    subst₂ (λ (m : Me (Unit {0}) View) (w : View). Allows Rule slots place m 0 (λ n. n) (Turns m w)) (sym is) (sym wanted)
    (opens slots place start faults)

-- ---- handing out

home_numbered : (book : BookView) (pass : PassView) → IsHome book pass → IsHome (one_handed_out book) pass
home_numbered book pass home = record {
  start = home.start;
  front = home.front;
  low = home.low;
  high = omega (arith, home.high);
  own = home.own;
  tried = home.tried;
  found = home.found;
  left = home.left;
}

note_numbered : (book : BookView) (note : NoteView) → IsNoteOf book note → IsNoteOf (one_handed_out book) note
note_numbered book note is = record { start = is.start; front = is.front }

others_numbered : (seat to : ℕ) (book : BookView) (home : ℕ → ℕ) (place : ℕ) (view : View) → place ≢ seat →
    Fits seat book home place view → Fits seat (one_handed_out book) (moved book.next to home) place view
others_numbered seat to book home place Blank away fits = fits
others_numbered seat to book home place (Free own) away fits = absurd (away fits.0)
others_numbered seat to book home place (Holding held) away fits = absurd (away fits.0)
others_numbered seat to book home place (Home pass) away fits =
    (moved_else book.next to home pass.number (λ same. absurd (omega (arith, same, fits.1.high))) ∙ fits.0, home_numbered book pass fits.1)
others_numbered seat to book home place (Learning pass note) away fits = (
  moved_else book.next to home pass.number (λ same. absurd (omega (arith, same, fits.1.high))) ∙ fits.0,
  home_numbered book pass fits.1,
  note_numbered book note fits.2,
)
others_numbered seat to book home place (Noted note) away fits = note_numbered book note fits
others_numbered seat to book home place (Merging first other) away fits = (note_numbered book first fits.0, note_numbered book other fits.1)
others_numbered seat to book home place Spent away fits = fits

home_new : (book : BookView) → 1 ≤ book.next → AreOfPasses book.next book.tried → IsHome (one_handed_out book) (new_pass book)
home_new book some_number of_passes = record {
  start = refl;
  front = prefix_self book.list;
  low = some_number;
  high = omega arith;
  own = refl;
  tried = those_none of_rows book.next book.tried (λ i d within. (let known = of_passes i d within in λ same. absurd (omega (arith, same, known.1))));
  found = omega arith;
  left = omega arith;
}

hands_out : (place : ℕ) (book : BookView) → Splits Rule place (Free book) (Free (one_handed_out book)) (Home (new_pass book))
hands_out place book = λ s rule at.
    (let here = at_free s.words s.views place book rule at in
    let views = slice_set s.views place (Free (one_handed_out book)) in
    let home : ℕ → ℕ = moved book.next (length views) here.home in
    inr (
      place,
      one_handed_out book,
      home,
      record {
        word = here.open_as.word;
        first = omega arith;
        below = λ i d within. (let known = here.open_as.below i d within in omega (arith, known));
        tried = λ i d within. (let known = here.open_as.tried i d within in (known.0, omega (arith, known.1)));
        fits = pushed (Fits place (one_handed_out book) home) (Fits place (one_handed_out book) home) views (Home (new_pass book))
            (reset (Fits place book here.home) (Fits place (one_handed_out book) home) s.views place (Free (one_handed_out book)) here.open_as.fits
            (λ j v away fits. others_numbered place (length views) book here.home j v away fits)
            (refl, refl))
            (λ j v fits. fits)
            (moved_here book.next (length views) here.home, home_new book here.open_as.first here.open_as.tried);
      },
    ))

pub hands_out_as : (place : ℕ) (me : Me (Unit {0}) View) (book : BookView) → me ≡ (Free book, []) →
    Splits Rule place me.0 (Free (one_handed_out (book_of me.0))) (Home (new_pass (book_of me.0)))
hands_out_as place me book is =
    subst (λ (m : Me (Unit {0}) View). Splits Rule place m.0 (Free (one_handed_out (book_of m.0))) (Home (new_pass (book_of m.0)))) (sym is) (hands_out place book)

-- ---- coming in

held_new : (book : BookView) (pass : PassView) → IsHome book pass → IsHeld (holding book pass)
held_new book pass home = record {
  start = home.start;
  front = home.front;
  low = home.low;
  high = home.high;
  own = home.own ∙ sym (append-nil (entries_of pass.number pass.list));
  tried = home.tried ∙ sym (append-nil pass.tried);
  left = home.left;
  found = omega arith;
}

comes_in : (place other : ℕ) (book : BookView) (pass : PassView) → Joins Rule place (Free book) other (Home pass) (Holding (holding book pass)) Spent
comes_in place other book pass = λ s rule at apart there.
    (let here = at_free s.words s.views place book rule at in
    let stood : get_elem? s.views other ≡ some (Home pass) = sym (set_else s.views place other (Holding (holding book pass)) apart) ∙ there in
    let known : Fits place book here.home other (Home pass) = here.open_as.fits other (Home pass) stood in
    let home : ℕ → ℕ = moved pass.number place here.home in
    inr (
      place,
      book,
      home,
      record {
        word = here.open_as.word;
        first = here.open_as.first;
        below = here.open_as.below;
        tried = here.open_as.tried;
        fits = reset (λ j v. j ≢ other → Fits place book home j v) (Fits place book home) (slice_set s.views place (Holding (holding book pass))) other Spent
            (reset (Fits place book here.home) (λ j v. j ≢ other → Fits place book home j v) s.views place (Holding (holding book pass)) here.open_as.fits
            (λ j v away fits elsewhere. others_move pass.number place other place book here.home known.0 j v away elsewhere fits)
            (λ elsewhere. (refl, refl, moved_here pass.number place here.home, held_new book pass known.1)))
            (λ j v away fits. fits away)
            tt;
      },
    ))

pub comes_in_as : (place other : ℕ) (me : Me (Unit {0}) View) (view : View) (book : BookView) (pass : PassView) → me ≡ (Free book, []) → view ≡ Home pass →
    Joins Rule place me.0 other view (Holding (holding (book_of me.0) (pass_of view))) Spent
comes_in_as place other me view book pass is home =
    subst₂ (λ (m : Me (Unit {0}) View) (v : View). Joins Rule place m.0 other v (Holding (holding (book_of m.0) (pass_of v))) Spent) (sym is) (sym home)
    (comes_in place other book pass)

-- ---- going back

home_returned : (held : HoldingView) → IsHeld held → IsHome held.book (returned held)
home_returned held is = record {
  start = is.start;
  front = prefix_self held.book.list;
  low = is.low;
  high = is.high;
  own = refl;
  tried = is.tried;
  found = is.found;
  left = omega arith;
}

goes_back : (place : ℕ) (held : HoldingView) → Splits Rule place (Holding held) (Free held.book) (Home (returned held))
goes_back place held = λ s rule at.
    (let here = at_holding s.words s.views place held rule at in
    let views = slice_set s.views place (Free held.book) in
    let home : ℕ → ℕ = moved held.pass.number (length views) here.home in
    inr (
      place,
      held.book,
      home,
      record {
        word = here.open_as.word;
        first = here.open_as.first;
        below = here.open_as.below;
        tried = here.open_as.tried;
        fits = pushed (Fits place held.book home) (Fits place held.book home) views (Home (returned held))
            (reset (Fits place held.book here.home) (Fits place held.book home) s.views place (Free held.book) here.open_as.fits
            (λ j v away fits. others_move held.pass.number place place (length views) held.book here.home here.here j v away away fits)
            (refl, refl))
            (λ j v fits. fits)
            (moved_here held.pass.number (length views) here.home, home_returned held here.kept);
      },
    ))

pub goes_back_as : (place : ℕ) (me : Me (Unit {0}) View) (held : HoldingView) → me ≡ (Holding held, []) →
    Splits Rule place me.0 (Free (holding_of me.0).book) (Home (returned (holding_of me.0)))
goes_back_as place me held is =
    subst (λ (m : Me (Unit {0}) View). Splits Rule place m.0 (Free (holding_of m.0).book) (Home (returned (holding_of m.0)))) (sym is) (goes_back place held)
