-- Those wait who applied, and were neither removed nor admitted.
use Rattle.std.proofs.Common.{◌≡◌, ◌∙◌, sym, ap, refl, subst, ℕ, zero, suc, ◌+◌, arith, Bool, true, false, not, List, [], ◌∷◌, Option, Some, None, filter_map}
use Rattle.std.specs.Prelude.{Contains, slice_get}
use Rattle.std.specs.{Option.option_map, List.list_any, List.cons_option}
use Rattle.std.proofs.lemmas.{Bool.eqb-true, Bool.eq-eqb, Bool.false≢true, Bool.false_from_ne_true, Bool.not-true, Bool.not_from_false, List.Folds.list_any_none, List.Elements.Contains-append_right, Option.same_Some}
use Rattle.list_laws.proofs.{FilterMaps.All-filter_map, Filters.Contains-filter, Filters.filter-contains, Options.option_map_some}
use Rattle.wait_list.specs.declared.applicant.Applicant.{Applicant}
use Rattle.book_rows.specs.{declared.rows.ActRow.ActRow, declared.applicants.ApplyAct.ApplyAct, declared.command.Command.Command, Book.Book}
use Rattle.command_forms.specs.Commands.{command_in}
use Rattle.office_step.specs.{declared.known.Application.Application, Known.known_of}
use Rattle.office_step.specs.Acts.{Act, act_of, acts_of, numbered, apply_in, application_by, applicant_of, ranks_of, takes_off_list}
use Rattle.office_step.proofs.Exactly.Options.{of_each, any-from, map-some}
use Rattle.office_laws.specs.Waiting.{IsActOf, AppliedBy, TakesOff, IsWaiting, ThoseWaitWhoApplied}

-- ---- what is given of elements

given : {X Y : Type 0} (h : X → Option Y) (xs : List X) (x : X) (y : Y) → Contains xs x → h x ≡ Some y → Contains (filter_map h xs) y
given h [] x y (k, within, is) gives = absurd (omega (arith, within))
given h (first ∷ xs) x y (zero, within, is) gives =
    subst (λ (o : Option _). Contains (cons_option o (filter_map h xs)) y) (sym (ap h is ∙ gives)) (0, omega arith, refl)
given {X} {Y} h (first ∷ xs) x y (suc k, within, is) gives = by_first (h first) (given h xs x y (k, omega (arith, within), is) gives)
  where
    by_first : (o : Option Y) → Contains (filter_map h xs) y → Contains (cons_option o (filter_map h xs)) y
    by_first None rest = rest
    by_first (Some z) rest = Contains-append_right (z ∷ []) (filter_map h xs) y rest

giving : {X Y : Type 0} (h : X → Option Y) (xs : List X) (y : Y) → Contains (filter_map h xs) y → (x : X) × Contains xs x × (h x ≡ Some y)
giving h [] y (k, within, is) = absurd (omega (arith, within))
giving {X} {Y} h (first ∷ xs) y held = by_first (h first) refl held (giving h xs y)
  where
    by_first : (o : Option Y) → h first ≡ o → Contains (cons_option o (filter_map h xs)) y → (Contains (filter_map h xs) y → (x : X) × Contains xs x × (h x ≡ Some y)) →
        (x : X) × Contains (first ∷ xs) x × (h x ≡ Some y)
    by_first None is held later = let rest = later held in (rest.0, Contains-append_right (first ∷ []) xs rest.0 rest.1, rest.2)
    by_first (Some z) is (zero, within, same) later = (first, (0, omega arith, refl), is ∙ ap Some same)
    by_first (Some z) is (suc k, within, same) later =
        let rest = later (k, omega (arith, within), same) in (rest.0, Contains-append_right (first ∷ []) xs rest.0 rest.1, rest.2)

-- ---- numbered items

at_place : {A B : Type 0} (make : ℕ → A → B) (first : ℕ) (xs : List A) (y : B) → Contains (numbered make first xs) y →
    (place : ℕ) × (x : A) × (slice_get xs place ≡ Some x) × (make (first + place) x ≡ y)
at_place make first [] y (k, within, is) = absurd (omega (arith, within))
at_place make first (x ∷ xs) y (zero, within, is) = let here : first + 0 ≡ first = omega arith in (0, x, refl, ap (λ (n : ℕ). make n x) here ∙ is)
at_place make first (x ∷ xs) y (suc k, within, is) =
    let rest = at_place make (first + 1) xs y (k, omega (arith, within), is) in
    let there : first + suc rest.0 ≡ first + 1 + rest.0 = omega arith in (suc rest.0, rest.1, rest.2, ap (λ (n : ℕ). make n rest.1) there ∙ rest.3)

placed_at : {A B : Type 0} (make : ℕ → A → B) (first : ℕ) (xs : List A) (place : ℕ) (x : A) → slice_get xs place ≡ Some x →
    Contains (numbered make first xs) (make (first + place) x)
placed_at make first [] place x is = absurd (cc)
placed_at make first (z ∷ xs) zero x is =
    let here : first ≡ first + 0 = omega arith in (0, omega arith, ap (make first) (same_Some z x is) ∙ ap (λ (n : ℕ). make n x) here)
placed_at make first (z ∷ xs) (suc place) x is =
    let there : first + 1 + place ≡ first + suc place = omega arith in
    Contains-append_right (make first z ∷ []) (numbered make (first + 1) xs) (make (first + suc place) x)
    (subst (λ (n : ℕ). Contains (numbered make (first + 1) xs) (make n x)) there (placed_at make (first + 1) xs place x is))

-- ---- applications

applies : (asked : Command) (apply : ApplyAct) → apply_in asked ≡ Some apply → asked ≡ Command.Apply apply
applies (Command.Apply own) apply is = ap (λ (a : ApplyAct). Command.Apply a) (same_Some own apply is)
applies _ apply is = absurd (cc)

module _ (book : Book) (application : Application) where
  abbrev set : Act → Option Application
  set act = option_map (application_by act.n) (apply_in act.command)

  is_act : Contains (filter_map set (acts_of book.acts)) application → IsActOf book application
  is_act held =
      let act = giving set (acts_of book.acts) application held in
      let row = giving act_of book.acts act.0 act.1 in
      let apply = map-some (application_by act.0.n) (apply_in act.0.command) application act.2 in
      let read = map-some (λ asked. record { n = row.0.n; command = asked }) (command_in row.0.body) act.0 row.2 in
      let same : application ≡ application_by act.0.n apply.0 = apply.2 in record {
        row = row.0;
        there = row.1;
        n = sym (ap (λ (act : Act). act.n) read.2) ∙ sym (ap (λ (application : Application). application.act) same);
        reads = read.1
            ∙ ap Some (sym (ap (λ (act : Act). act.command) read.2) ∙ applies act.0.command apply.0 apply.1 ∙ ap (λ (a : ApplyAct). Command.Apply a) (sym (ap (λ (application : Application). application.apply) same)));
      }

  act_is : IsActOf book application → Contains (filter_map set (acts_of book.acts)) application
  act_is at =
      let act : Act = record { n = at.row.n; command = Command.Apply application.apply } in
      given set (acts_of book.acts) act application
      (given act_of book.acts at.row act at.there (ap (option_map (λ asked. record { n = at.row.n; command = asked })) at.reads))
      (λ i. Some (record { act = at.n i; apply = application.apply }))

-- ---- who waits

takes : (number : ℕ) (asked : Command) → takes_off_list number asked ≡ true → TakesOff number asked
takes number (Command.Remove remove) is = eqb-true remove.applicant number is
takes number (Command.Admit admit) is = eqb-true admit.applicant number is
takes number _ is = absurd (false≢true is)

is_taken : (number : ℕ) (asked : Command) → TakesOff number asked → takes_off_list number asked ≡ true
is_taken number (Command.Remove remove) is = eq-eqb remove.applicant number is
is_taken number (Command.Admit admit) is = eq-eqb admit.applicant number is
is_taken number _ is = absurd is

module _ (book : Book) (applicant : Applicant) where
  abbrev acts : List Act
  acts = acts_of book.acts

  abbrev is_off : Act → Bool
  is_off act = takes_off_list applicant.number act.command

  abbrev Left : ActRow → Type 0
  Left row = (asked : Command) → command_in row.body ≡ Some asked → ¬ TakesOff applicant.number asked

  not_off : list_any is_off acts ≡ false → (row : ActRow) (asked : Command) → Contains book.acts row → command_in row.body ≡ Some asked → ¬ TakesOff applicant.number asked
  not_off none row asked held reads off =
      let act : Act = record { n = row.n; command = asked } in
      let there = given act_of book.acts row act held (ap (option_map (λ asked. record { n = row.n; command = asked })) reads) in
      false≢true (sym none ∙ any-from is_off acts act there (is_taken applicant.number asked off))

  none_off : ((row : ActRow) (asked : Command) → Contains book.acts row → command_in row.body ≡ Some asked → ¬ TakesOff applicant.number asked) → list_any is_off acts ≡ false
  none_off never =
      list_any_none is_off acts (All-filter_map Left (λ act. is_off act ≡ false) act_of
      (λ row act is left. option_map_some (λ asked. record { n = row.n; command = asked }) (command_in row.body) act is (λ asked reads same.
      false_from_ne_true (is_off act) (λ off. left asked reads (takes applicant.number asked (ap (λ (act : Act). is_off act) same ∙ off)))))
      book.acts (of_each Left book.acts (λ row held asked reads. never row asked held reads)))

  abbrev make : ℕ → Application → Applicant
  make = applicant_of (ranks_of (known_of book).plan)

  applied : Contains (numbered make 1 (known_of book).applications) applicant → AppliedBy (known_of book) applicant
  applied held =
      let at = at_place make 1 (known_of book).applications applicant held in
      let number : applicant.number ≡ 1 + at.0 = sym (ap (λ (a : Applicant). a.number) at.3) in record {
        place = at.0;
        application = at.1;
        applied = at.2;
        number = omega (arith, number);
        act = sym (ap (λ (a : Applicant). a.act) at.3);
        size = sym (ap (λ (a : Applicant). a.size) at.3);
        persons = sym (ap (λ (a : Applicant). a.persons) at.3);
        rank = sym (ap (λ (a : Applicant). a.rank) at.3);
        accessible = sym (ap (λ (a : Applicant). a.accessible) at.3);
        annual = sym (ap (λ (a : Applicant). a.annual) at.3);
      }

  is_applied : AppliedBy (known_of book) applicant → Contains (numbered make 1 (known_of book).applications) applicant
  is_applied at =
      let number : 1 + at.place ≡ applicant.number = omega (arith, at.number) in
      let same : make (1 + at.place) at.application ≡ applicant = λ i. record {
        number = number i;
        act = sym at.act i;
        size = sym at.size i;
        persons = sym at.persons i;
        rank = sym at.rank i;
        accessible = sym at.accessible i;
        annual = sym at.annual i;
      } in
      subst (Contains (numbered make 1 (known_of book).applications)) same (placed_at make 1 (known_of book).applications at.place at.application at.applied)

  abbrev stays : Applicant → Bool
  stays applicant = not (list_any (λ (act : Act). takes_off_list applicant.number act.command) acts)

  abbrev all : List Applicant
  all = numbered make 1 (known_of book).applications

  waits : Contains (known_of book).waiting applicant → IsWaiting book applicant
  waits held = let has = filter-contains stays all applicant held in record { applied = applied has.0; stayed = not_off (not-true (list_any is_off acts) has.1) }

  is_waiting : IsWaiting book applicant → Contains (known_of book).waiting applicant
  is_waiting is = Contains-filter stays all applicant (is_applied is.applied) (not_from_false (list_any is_off acts) (none_off is.stayed))

pub those_wait_who_applied : (book : Book) → ThoseWaitWhoApplied book
those_wait_who_applied book = record {
  applications = λ application. (is_act book application, act_is book application);
  waiting = λ applicant. (waits book applicant, is_waiting book applicant);
}
