-- Notes are written, learned and merged.
use Rattle.std.proofs.Common.{◌≡◌, inr, ℕ, [], length, refl, sym, subst, subst₂, ◌∙◌}
use Rattle.std.specs.Prelude.{slice_set}
use mathlib.Core.Option.{some}
use lib.ListN.{get_elem?}
use Rattle.atomic_table.specs.Table.{Me, Allows, Splits, Joins, keeps}
use Rattle.atomic_table.proofs.Lists.{set_else}
use Rattle.desk_history.specs.declared.views.BookView.{BookView}
use Rattle.desk_history.specs.declared.views.PassView.{PassView}
use Rattle.desk_history.specs.declared.views.NoteView.{NoteView}
use Rattle.desk_history.specs.declared.views.View.{View}
use Rattle.desk_history.specs.declared.views.View.TheVariants.{Home, Learning, Noted, Merging, Spent}
use Rattle.desk_history.specs.Seen.{pass_of, note_of}
use Rattle.desk_history.specs.Moves.{noted, longer, learned, merged}
use Rattle.desk_history.specs.Rule.{IsNoteOf, IsHome, Fits, Turns}
use Rattle.desk_history.proofs.Steps.{Rule, is_open}
use Rattle.desk_history.proofs.Fronts.{IsLonger, longer_is}
use Rattle.desk_history.proofs.Entries.{entries_between}
use Rattle.desk_history.proofs.Places.{reset, pushed, word_set}

note_of_home : (book : BookView) (pass : PassView) → IsHome book pass → IsNoteOf book (noted pass)
note_of_home book pass home = record { start = home.start; front = home.front }

writes_note : (place : ℕ) (pass : PassView) → Splits Rule place (Home pass) (Home pass) (Noted (noted pass))
writes_note place pass = λ s rule at.
    (let o = is_open s.words s.views place (Home pass) rule (λ e. absurd (cc e)) at in
    let known : Fits o.0 o.1 o.2 place (Home pass) = o.3.fits place (Home pass) at in
    inr (
      o.0,
      o.1,
      o.2,
      record {
        word = o.3.word;
        first = o.3.first;
        below = o.3.below;
        tried = o.3.tried;
        fits = pushed (Fits o.0 o.1 o.2) (Fits o.0 o.1 o.2) (slice_set s.views place (Home pass)) (Noted (noted pass))
            (reset (Fits o.0 o.1 o.2) (Fits o.0 o.1 o.2) s.views place (Home pass) o.3.fits (λ j v away fits. fits) known)
            (λ j v fits. fits)
            (note_of_home o.1 pass known.1);
      },
    ))

pub writes_note_as : (place : ℕ) (view : View) (pass : PassView) → view ≡ Home pass →
    Splits Rule place view (Home (pass_of view)) (Noted (noted (pass_of view)))
writes_note_as place view pass is =
    subst (λ (v : View). Splits Rule place v (Home (pass_of v)) (Noted (noted (pass_of v)))) (sym is) (writes_note place pass)

takes_note : (place other : ℕ) (pass : PassView) (note : NoteView) → Joins Rule place (Home pass) other (Noted note) (Learning pass note) Spent
takes_note place other pass note = λ s rule at apart there.
    (let o = is_open s.words s.views place (Home pass) rule (λ e. absurd (cc e)) at in
    let known : Fits o.0 o.1 o.2 place (Home pass) = o.3.fits place (Home pass) at in
    let stood : get_elem? s.views other ≡ some (Noted note) = sym (set_else s.views place other (Learning pass note) apart) ∙ there in
    let said : Fits o.0 o.1 o.2 other (Noted note) = o.3.fits other (Noted note) stood in
    inr (
      o.0,
      o.1,
      o.2,
      record {
        word = o.3.word;
        first = o.3.first;
        below = o.3.below;
        tried = o.3.tried;
        fits = reset (Fits o.0 o.1 o.2) (Fits o.0 o.1 o.2) (slice_set s.views place (Learning pass note)) other Spent
            (reset (Fits o.0 o.1 o.2) (Fits o.0 o.1 o.2) s.views place (Learning pass note) o.3.fits (λ j v away fits. fits) (known.0, known.1, said))
            (λ j v away fits. fits)
            tt;
      },
    ))

pub takes_note_as : (place other : ℕ) (me : Me (Unit {0}) View) (view : View) (pass : PassView) (note : NoteView) → me ≡ (Home pass, []) → view ≡ Noted note →
    Joins Rule place me.0 other view (Learning (pass_of me.0) (note_of view)) Spent
takes_note_as place other me view pass note is noted_is =
    subst₂ (λ (m : Me (Unit {0}) View) (v : View). Joins Rule place m.0 other v (Learning (pass_of m.0) (note_of v)) Spent) (sym is) (sym noted_is)
    (takes_note place other pass note)

pub home_learned : (book : BookView) (pass : PassView) (note : NoteView) → IsHome book pass → IsNoteOf book note → IsHome book (learned pass note)
home_learned book pass note home is =
    let both : IsLonger pass.list note.list book.list = longer_is pass.list note.list book.list home.front is.front in
    record {
      start = home.start;
      front = both.front;
      low = home.low;
      high = home.high;
      own = home.own ∙ sym (entries_between pass.number pass.list (longer pass.list note.list) book.list both.first both.front home.own);
      tried = home.tried;
      found = home.found;
      left = home.left;
    }

reads_note : (slots place : ℕ) (pass : PassView) (note : NoteView) →
    Allows Rule slots place (Learning pass note, []) 0 (λ n. n) (Turns (Learning pass note, []) (Home (learned pass note)))
reads_note slots place pass note = λ s rule homes at within.
    (let o = is_open s.words s.views place (Learning pass note) rule (λ e. absurd (cc e)) at in
    let known : Fits o.0 o.1 o.2 place (Learning pass note) = o.3.fits place (Learning pass note) at in
    let both : IsLonger pass.list note.list o.1.list = longer_is pass.list note.list o.1.list known.1.front known.2.front in (
      Home (learned pass note),
      keeps,
      tt,
      inr (
        o.0,
        o.1,
        o.2,
        record {
          word = word_set s.words (length o.1.list) (length o.1.list) (λ n. n) o.3.word refl;
          first = o.3.first;
          below = o.3.below;
          tried = o.3.tried;
          fits = reset (Fits o.0 o.1 o.2) (Fits o.0 o.1 o.2) s.views place (Home (learned pass note)) o.3.fits (λ j v away fits. fits)
              (known.0, home_learned o.1 pass note known.1 known.2);
        },
      ),
      (
        refl,
        (
          both.first,
          both.other,
          entries_between pass.number pass.list (longer pass.list note.list) o.1.list both.first both.front known.1.own,
          known.2.start ∙ sym known.1.start,
        ),
      ),
    ))

pub reads_note_as : (slots place : ℕ) (me : Me (Unit {0}) View) (want : View) (pass : PassView) (note : NoteView) → me ≡ (Learning pass note, []) →
    want ≡ Home (learned pass note) → Allows Rule slots place me 0 (λ n. n) (Turns me want)
reads_note_as slots place me want pass note is wanted =
    subst₂ (λ (m : Me (Unit {0}) View) (w : View). Allows Rule slots place m 0 (λ n. n) (Turns m w)) (sym is) (sym wanted)
    (reads_note slots place pass note)

-- ---- merging

takes_other : (place other : ℕ) (first second : NoteView) → Joins Rule place (Noted first) other (Noted second) (Merging first second) Spent
takes_other place other first second = λ s rule at apart there.
    (let o = is_open s.words s.views place (Noted first) rule (λ e. absurd (cc e)) at in
    let known : Fits o.0 o.1 o.2 place (Noted first) = o.3.fits place (Noted first) at in
    let stood : get_elem? s.views other ≡ some (Noted second) = sym (set_else s.views place other (Merging first second) apart) ∙ there in
    let said : Fits o.0 o.1 o.2 other (Noted second) = o.3.fits other (Noted second) stood in
    inr (
      o.0,
      o.1,
      o.2,
      record {
        word = o.3.word;
        first = o.3.first;
        below = o.3.below;
        tried = o.3.tried;
        fits = reset (Fits o.0 o.1 o.2) (Fits o.0 o.1 o.2) (slice_set s.views place (Merging first second)) other Spent
            (reset (Fits o.0 o.1 o.2) (Fits o.0 o.1 o.2) s.views place (Merging first second) o.3.fits (λ j v away fits. fits) (known, said))
            (λ j v away fits. fits)
            tt;
      },
    ))

pub takes_other_as : (place other : ℕ) (me : Me (Unit {0}) View) (view : View) (first second : NoteView) → me ≡ (Noted first, []) → view ≡ Noted second →
    Joins Rule place me.0 other view (Merging (note_of me.0) (note_of view)) Spent
takes_other_as place other me view first second is noted_is =
    subst₂ (λ (m : Me (Unit {0}) View) (v : View). Joins Rule place m.0 other v (Merging (note_of m.0) (note_of v)) Spent) (sym is) (sym noted_is)
    (takes_other place other first second)

reads_both : (slots place : ℕ) (first second : NoteView) →
    Allows Rule slots place (Merging first second, []) 0 (λ n. n) (Turns (Merging first second, []) (Noted (merged first second)))
reads_both slots place first second = λ s rule homes at within.
    (let o = is_open s.words s.views place (Merging first second) rule (λ e. absurd (cc e)) at in
    let known : Fits o.0 o.1 o.2 place (Merging first second) = o.3.fits place (Merging first second) at in
    let both : IsLonger first.list second.list o.1.list = longer_is first.list second.list o.1.list known.0.front known.1.front in (
      Noted (merged first second),
      keeps,
      tt,
      inr (
        o.0,
        o.1,
        o.2,
        record {
          word = word_set s.words (length o.1.list) (length o.1.list) (λ n. n) o.3.word refl;
          first = o.3.first;
          below = o.3.below;
          tried = o.3.tried;
          fits = reset (Fits o.0 o.1 o.2) (Fits o.0 o.1 o.2) s.views place (Noted (merged first second)) o.3.fits (λ j v away fits. fits)
              (record { start = known.0.start; front = both.front });
        },
      ),
      (refl, (both.first, both.other, known.1.start ∙ sym known.0.start)),
    ))

pub reads_both_as : (slots place : ℕ) (me : Me (Unit {0}) View) (want : View) (first second : NoteView) → me ≡ (Merging first second, []) →
    want ≡ Noted (merged first second) → Allows Rule slots place me 0 (λ n. n) (Turns me want)
reads_both_as slots place me want first second is wanted =
    subst₂ (λ (m : Me (Unit {0}) View) (w : View). Allows Rule slots place m 0 (λ n. n) (Turns m w)) (sym is) (sym wanted)
    (reads_both slots place first second)
