-- Each step keeps the rule, from any state that meets it.
use Rattle.std.proofs.Common.{◌≡◌, ◌≢◌, inl, inr, ℕ, zero, suc, ◌+◌, ◌%◌, ◌^◌, ◌<◌, ◌≤◌, List, [], ◌∷◌, ◌++◌, length, refl, ap, sym, subst, subst₂, ◌∙◌, arith, append_assoc, length-append}
use Rattle.std.specs.Prelude.{slice_index, slice_set, All}
use mathlib.Core.Option.{some, some-injective, some-ne-none}
use mathlib.Core.List.{IsPrefix}
use lib.ListN.{get_elem?}
use Rattle.std.proofs.lemmas.List.{append-nil}
use Rattle.std.proofs.lemmas.List.Elements.{All-nil, All-cons, All-append}
use Rattle.atomic_table.specs.Table.{State, Me, Allows, keeps}
use Rattle.book_rows.specs.declared.rows.ActRow.{ActRow}
use Rattle.book_rows.specs.declared.rows.Batch.{Batch}
use Rattle.desk_history.specs.declared.views.BookView.{BookView}
use Rattle.desk_history.specs.declared.views.PassView.{PassView}
use Rattle.desk_history.specs.declared.views.NoteView.{NoteView}
use Rattle.desk_history.specs.declared.views.HoldingView.{HoldingView}
use Rattle.desk_history.specs.declared.views.View.{View}
use Rattle.desk_history.specs.declared.views.View.TheVariants.{Blank, Free, Holding, Home, Learning, Noted, Merging, Spent}
use Rattle.desk_history.specs.Seen.{entries_of, tries_of}
use Rattle.desk_history.specs.Moves.{GrowsBy, booked, looked, unkept}
use Rattle.desk_history.specs.Rule.{IsNoteOf, IsHome, IsHeld, AreOfPasses, Fits, IsOpenAs, IsOpen, Keeps, Turns}
use Rattle.desk_history.proofs.Fronts.{prefix_more}
use Rattle.desk_history.proofs.Entries.{of_row, of_rows, those_stay, those_more}
use Rattle.desk_history.proofs.Places.{reset, moved, moved_else, word_set, word_found}

abbrev pub Rule : State (Unit {0}) View → Type 0
Rule s = Keeps s.words s.views

-- ---- what stays with the others

all_more : {A : Type 0} (p q : A → Type 0) → ((x : A) → p x → q x) → (xs : List A) → All p xs → All q xs
all_more p q each xs all = λ i d within. each _ (all i d within)

pub home_stays : (number : ℕ) (old new : BookView) (pass : PassView) → GrowsBy number old new → pass.number ≢ number → IsHome old pass → IsHome new pass
home_stays number old new pass grows other home = record {
  start = home.start ∙ sym grows.start;
  front = subst (λ (w : List ActRow). IsPrefix pass.list w) (sym grows.list) (prefix_more pass.list old.list grows.rows home.front);
  low = home.low;
  high = subst (λ (n : ℕ). pass.number < n) (sym grows.next) home.high;
  own = ap (entries_of pass.number) grows.list
      ∙ (those_stay of_row pass.number old.list grows.rows
      (all_more (λ (row : ActRow). row.session ≡ number) (λ row. row.session ≢ pass.number) (λ row is same. other (sym same ∙ is)) grows.rows grows.own)
      ∙ home.own);
  tried = ap (tries_of pass.number) grows.tried
      ∙ (those_stay of_rows pass.number old.tried grows.tries
      (all_more (λ (rows : Batch). rows.act.session ≡ number) (λ rows. rows.act.session ≢ pass.number) (λ rows is same. other (sym same ∙ is)) grows.tries grows.own_tries)
      ∙ home.tried);
  found = home.found;
  left = omega (arith, home.left, grows.faults);
}

pub note_stays : (number : ℕ) (old new : BookView) (note : NoteView) → GrowsBy number old new → IsNoteOf old note → IsNoteOf new note
note_stays number old new note grows is = record {
  start = is.start ∙ sym grows.start;
  front = subst (λ (w : List ActRow). IsPrefix note.list w) (sym grows.list) (prefix_more note.list old.list grows.rows is.front);
}

pub others_grow : (number seat : ℕ) (old new : BookView) (home : ℕ → ℕ) → GrowsBy number old new → home number ≡ seat →
    (place : ℕ) (view : View) → place ≢ seat → Fits seat old home place view → Fits seat new home place view
others_grow number seat old new home grows here place Blank away fits = fits
others_grow number seat old new home grows here place (Free own) away fits = absurd (away fits.0)
others_grow number seat old new home grows here place (Holding held) away fits = absurd (away fits.0)
others_grow number seat old new home grows here place (Home pass) away fits =
    (fits.0, home_stays number old new pass grows (λ same. away (sym fits.0 ∙ (ap home same ∙ here))) fits.1)
others_grow number seat old new home grows here place (Learning pass note) away fits =
    (fits.0, home_stays number old new pass grows (λ same. away (sym fits.0 ∙ (ap home same ∙ here))) fits.1, note_stays number old new note grows fits.2)
others_grow number seat old new home grows here place (Noted note) away fits = note_stays number old new note grows fits
others_grow number seat old new home grows here place (Merging first other) away fits =
    (note_stays number old new first grows fits.0, note_stays number old new other grows fits.1)
others_grow number seat old new home grows here place Spent away fits = fits

pub others_move : (number seat from to : ℕ) (book : BookView) (home : ℕ → ℕ) → home number ≡ from →
    (place : ℕ) (view : View) → place ≢ seat → place ≢ from → Fits seat book home place view → Fits seat book (moved number to home) place view
others_move number seat from to book home here place Blank away apart fits = fits
others_move number seat from to book home here place (Free own) away apart fits = absurd (away fits.0)
others_move number seat from to book home here place (Holding held) away apart fits = absurd (away fits.0)
others_move number seat from to book home here place (Home pass) away apart fits =
    (moved_else number to home pass.number (λ same. apart (sym fits.0 ∙ (ap home same ∙ here))) ∙ fits.0, fits.1)
others_move number seat from to book home here place (Learning pass note) away apart fits =
    (moved_else number to home pass.number (λ same. apart (sym fits.0 ∙ (ap home same ∙ here))) ∙ fits.0, fits.1, fits.2)
others_move number seat from to book home here place (Noted note) away apart fits = fits
others_move number seat from to book home here place (Merging first other) away apart fits = fits
others_move number seat from to book home here place Spent away apart fits = fits

-- ---- the seat that steps

pub record IsFreeAt (words : List ℕ) (views : List View) (place : ℕ) (book : BookView) : Type 0 where
  pub home : ℕ → ℕ
  pub open_as : IsOpenAs words views place book home

pub record IsHoldingAt (words : List ℕ) (views : List View) (place : ℕ) (held : HoldingView) : Type 0 where
  pub home : ℕ → ℕ
  pub open_as : IsOpenAs words views place held.book home
  pub here : home held.pass.number ≡ place
  pub kept : IsHeld held

pub is_open : (words : List ℕ) (views : List View) (place : ℕ) (view : View) → Keeps words views → (view ≡ Blank → ⊥) → get_elem? views place ≡ some view → IsOpen words views
is_open words views place view (inl new) not at = absurd (not (first place (subst (λ (l : List View). get_elem? l place ≡ some view) new.1 at)))
  where
    first : (i : ℕ) → get_elem? (Blank ∷ []) i ≡ some view → view ≡ Blank
    first zero e = sym (some-injective Blank view e)
    first (suc i) e = absurd (some-ne-none view (sym e))
is_open words views place view (inr open_now) not at = open_now

pub at_free : (words : List ℕ) (views : List View) (place : ℕ) (book : BookView) → Keeps words views → get_elem? views place ≡ some (Free book) → IsFreeAt words views place book
at_free words views place book rule at =
    let o = is_open words views place (Free book) rule (λ e. absurd (cc e)) at in
    let fits : Fits o.0 o.1 o.2 place (Free book) = o.3.fits place (Free book) at in
    record {
      home = o.2;
      open_as = subst₂ (λ (seat : ℕ) (b : BookView). IsOpenAs words views seat b o.2) (sym fits.0) (sym fits.1) o.3;
    }

pub at_holding : (words : List ℕ) (views : List View) (place : ℕ) (held : HoldingView) → Keeps words views → get_elem? views place ≡ some (Holding held) → IsHoldingAt words views place held
at_holding words views place held rule at =
    let o = is_open words views place (Holding held) rule (λ e. absurd (cc e)) at in
    let fits : Fits o.0 o.1 o.2 place (Holding held) = o.3.fits place (Holding held) at in
    record {
      home = o.2;
      open_as = subst₂ (λ (seat : ℕ) (b : BookView). IsOpenAs words views seat b o.2) (sym fits.0) (sym fits.1) o.3;
      here = fits.2;
      kept = fits.3;
    }

-- ---- append, look and write a try

held_grows : (words now : List ℕ) (views : List View) (place : ℕ) (held after : HoldingView) (at : IsHoldingAt words views place held) →
    after.pass ≡ held.pass → GrowsBy held.pass.number held.book after.book → IsHeld after → now ≡ length after.book.list ∷ [] →
    Keeps now (slice_set views place (Holding after))
held_grows words now views place held after at pass grows is_held word =
    inr (
      place,
      after.book,
      at.home,
      record {
        word = word;
        first = subst (λ (n : ℕ). 1 ≤ n) (sym grows.next) at.open_as.first;
        below = subst₂ (λ (n : ℕ) (list : List ActRow). All (λ row. row.session < n) list) (sym grows.next) (sym grows.list)
            (All-append (λ (row : ActRow). row.session < held.book.next) held.book.list grows.rows at.open_as.below
            (all_more (λ (row : ActRow). row.session ≡ held.pass.number) (λ row. row.session < held.book.next)
            (λ row is. subst (λ (n : ℕ). n < held.book.next) (sym is) at.kept.high) grows.rows grows.own));
        tried = subst₂ (λ (n : ℕ) (tried : List Batch). AreOfPasses n tried) (sym grows.next) (sym grows.tried)
            (All-append (λ (rows : Batch). (1 ≤ rows.act.session) × (rows.act.session < held.book.next)) held.book.tried grows.tries at.open_as.tried
            (all_more (λ (rows : Batch). rows.act.session ≡ held.pass.number) (λ rows. (1 ≤ rows.act.session) × (rows.act.session < held.book.next))
            (λ rows is. subst (λ (n : ℕ). (1 ≤ n) × (n < held.book.next)) (sym is) (at.kept.low, at.kept.high)) grows.tries grows.own_tries));
        fits = reset (Fits place held.book at.home) (Fits place after.book at.home) views place (Holding after) at.open_as.fits
            (λ j v away fits. others_grow held.pass.number place held.book after.book at.home grows at.here j v away fits)
            (refl, refl, ap (λ (p : PassView). at.home p.number) pass ∙ at.here, is_held);
      },
    )

one_own : (number : ℕ) (row : ActRow) → row.session ≡ number → All (λ r. r.session ≡ number) (row ∷ [])
one_own number row own = All-cons (λ (r : ActRow). r.session ≡ number) row [] own (All-nil (λ (r : ActRow). r.session ≡ number))

pub booked_grows : (held : HoldingView) (row : ActRow) → row.session ≡ held.pass.number → GrowsBy held.pass.number held.book (booked held row).book
booked_grows held row own = record {
  start = refl;
  rows = row ∷ [];
  list = refl;
  own = one_own held.pass.number row own;
  tries = [];
  tried = sym (append-nil held.book.tried);
  own_tries = All-nil (λ (r : Batch). r.act.session ≡ held.pass.number);
  next = refl;
  faults = omega arith;
}

pub looked_grows : (held : HoldingView) (faults : ℕ) → held.book.faults ≤ faults → GrowsBy held.pass.number held.book (looked held faults).book
looked_grows held faults rose = record {
  start = refl;
  rows = [];
  list = sym (append-nil held.book.list);
  own = All-nil (λ (r : ActRow). r.session ≡ held.pass.number);
  tries = [];
  tried = sym (append-nil held.book.tried);
  own_tries = All-nil (λ (r : Batch). r.act.session ≡ held.pass.number);
  next = refl;
  faults = rose;
}

one_try : (number : ℕ) (rows : Batch) → rows.act.session ≡ number → All (λ r. r.act.session ≡ number) (rows ∷ [])
one_try number rows own = All-cons (λ (r : Batch). r.act.session ≡ number) rows [] own (All-nil (λ (r : Batch). r.act.session ≡ number))

pub unkept_grows : (held : HoldingView) (rows : Batch) (faults : ℕ) → rows.act.session ≡ held.pass.number → held.book.faults ≤ faults →
    GrowsBy held.pass.number held.book (unkept held rows faults).book
unkept_grows held rows faults own rose = record {
  start = refl;
  rows = [];
  list = sym (append-nil held.book.list);
  own = All-nil (λ (r : ActRow). r.session ≡ held.pass.number);
  tries = rows ∷ [];
  tried = refl;
  own_tries = one_try held.pass.number rows own;
  next = refl;
  faults = rose;
}

pub held_booked : (held : HoldingView) (row : ActRow) → row.session ≡ held.pass.number → IsHeld held → IsHeld (booked held row)
held_booked held row own is = record {
  start = is.start;
  front = prefix_more held.pass.list held.book.list (row ∷ []) is.front;
  low = is.low;
  high = is.high;
  own = those_more of_row held.pass.number held.book.list (row ∷ []) (one_own held.pass.number row own)
      ∙ (ap (λ (w : List ActRow). w ++ row ∷ []) is.own ∙ append_assoc (entries_of held.pass.number held.pass.list) held.since (row ∷ []));
  tried = is.tried;
  left = is.left;
  found = is.found;
}

pub held_looked : (held : HoldingView) (faults : ℕ) → held.book.faults ≤ faults → IsHeld held → IsHeld (looked held faults)
held_looked held faults rose is = record {
  start = is.start;
  front = is.front;
  low = is.low;
  high = is.high;
  own = is.own;
  tried = is.tried;
  left = is.left;
  found = omega (arith, is.found, rose);
}

pub held_unkept : (held : HoldingView) (rows : Batch) (faults : ℕ) → rows.act.session ≡ held.pass.number → held.book.faults ≤ faults → IsHeld held →
    IsHeld (unkept held rows faults)
held_unkept held rows faults own rose is = record {
  start = is.start;
  front = is.front;
  low = is.low;
  high = is.high;
  own = is.own;
  tried = those_more of_rows held.pass.number held.book.tried (rows ∷ []) (one_try held.pass.number rows own)
      ∙ (ap (λ (w : List Batch). w ++ rows ∷ []) is.tried ∙ append_assoc held.pass.tried held.tries (rows ∷ []));
  left = is.left;
  found = omega (arith, is.found, rose);
}

books : (slots place : ℕ) (held : HoldingView) (row : ActRow) → row.session ≡ held.pass.number → length held.book.list < 2 ^ 32 →
    Allows Rule slots place (Holding held, []) 0 (λ n. (n + 1) % 2 ^ 64) (Turns (Holding held, []) (Holding (booked held row)))
books slots place held row own few = λ s rule homes at within.
    (let here = at_holding s.words s.views place held rule at in (
      Holding (booked held row),
      keeps,
      tt,
      held_grows s.words (slice_set s.words 0 ((slice_index s.words 0 + 1) % 2 ^ 64)) s.views place held (booked held row) here refl
          (booked_grows held row own) (held_booked held row own here.kept)
          (word_set s.words (length held.book.list) (length (held.book.list ++ row ∷ [])) (λ n. (n + 1) % 2 ^ 64) here.open_as.word
          (omega (arith, few, length-append held.book.list (row ∷ [])))),
      (refl, (here.kept, here.open_as.tried, word_found s.words (length held.book.list) here.open_as.word)),
    ))

pub books_as : (slots place : ℕ) (me : Me (Unit {0}) View) (want : View) (held : HoldingView) (row : ActRow) → me ≡ (Holding held, []) →
    row.session ≡ held.pass.number → length held.book.list < 2 ^ 32 → want ≡ Holding (booked held row) →
    Allows Rule slots place me 0 (λ n. (n + 1) % 2 ^ 64) (Turns me want)
books_as slots place me want held row is own few wanted =
    subst₂ (λ (m : Me (Unit {0}) View) (w : View). Allows Rule slots place m 0 (λ n. (n + 1) % 2 ^ 64) (Turns m w)) (sym is) (sym wanted)
    (books slots place held row own few)

looks : (slots place : ℕ) (held : HoldingView) (faults : ℕ) → held.book.faults ≤ faults →
    Allows Rule slots place (Holding held, []) 0 (λ n. n) (Turns (Holding held, []) (Holding (looked held faults)))
looks slots place held faults rose = λ s rule homes at within.
    (let here = at_holding s.words s.views place held rule at in (
      Holding (looked held faults),
      keeps,
      tt,
      held_grows s.words (slice_set s.words 0 (slice_index s.words 0)) s.views place held (looked held faults) here refl
          (looked_grows held faults rose) (held_looked held faults rose here.kept)
          (word_set s.words (length held.book.list) (length held.book.list) (λ n. n) here.open_as.word refl),
      (refl, (here.kept, here.open_as.tried, word_found s.words (length held.book.list) here.open_as.word)),
    ))

pub looks_as : (slots place : ℕ) (me : Me (Unit {0}) View) (want : View) (held : HoldingView) (faults : ℕ) → me ≡ (Holding held, []) →
    held.book.faults ≤ faults → want ≡ Holding (looked held faults) → Allows Rule slots place me 0 (λ n. n) (Turns me want)
looks_as slots place me want held faults is rose wanted =
    subst₂ (λ (m : Me (Unit {0}) View) (w : View). Allows Rule slots place m 0 (λ n. n) (Turns m w)) (sym is) (sym wanted)
    (looks slots place held faults rose)

tries : (slots place : ℕ) (held : HoldingView) (rows : Batch) (faults : ℕ) → rows.act.session ≡ held.pass.number → held.book.faults ≤ faults →
    Allows Rule slots place (Holding held, []) 0 (λ n. n) (Turns (Holding held, []) (Holding (unkept held rows faults)))
tries slots place held rows faults own rose = λ s rule homes at within.
    (let here = at_holding s.words s.views place held rule at in (
      Holding (unkept held rows faults),
      keeps,
      tt,
      held_grows s.words (slice_set s.words 0 (slice_index s.words 0)) s.views place held (unkept held rows faults) here refl
          (unkept_grows held rows faults own rose) (held_unkept held rows faults own rose here.kept)
          (word_set s.words (length held.book.list) (length held.book.list) (λ n. n) here.open_as.word refl),
      (refl, (here.kept, here.open_as.tried, word_found s.words (length held.book.list) here.open_as.word)),
    ))

pub tries_as : (slots place : ℕ) (me : Me (Unit {0}) View) (want : View) (held : HoldingView) (rows : Batch) (faults : ℕ) → me ≡ (Holding held, []) →
    rows.act.session ≡ held.pass.number → held.book.faults ≤ faults → want ≡ Holding (unkept held rows faults) →
    Allows Rule slots place me 0 (λ n. n) (Turns me want)
tries_as slots place me want held rows faults is own rose wanted =
    subst₂ (λ (m : Me (Unit {0}) View) (w : View). Allows Rule slots place m 0 (λ n. n) (Turns m w)) (sym is) (sym wanted)
    (tries slots place held rows faults own rose)
