-- Each act that a record comes of makes one.
use Rattle.std.proofs.Common.{◌≡◌, ◌≢◌, ◌∙◌, sym, ap, refl, subst, ℕ, ◌+◌, ◌<◌, ◌≤◌, ◌==◌, ◌⊎◌, inl, inr, arith, Bool, true, false, List, [], ◌∷◌, ◌++◌, Option, Some, None, length, is_some, if◌then◌else◌}
use Rattle.std.specs.Prelude.{⊤, All, Contains, option_and_then}
use Rattle.std.specs.Option.{option_map, option_map_or, option_or}
use Rattle.std.proofs.lemmas.{Bool.false≢true, Bool.cases_lt, Bool.eq-eqb, Grind.common_steps, Option.option_and_then_some, Option.same_Some}
use Rattle.std.proofs.lemmas.List.{Elements.All-contains, Elements.All-contains_itself, Elements.All-push, Elements.All-weaker, Folds.find-append}
use Rattle.list_laws.proofs.{Finds.find_holds, Options.option_map_some}
use Rattle.days_core.specs.declared.rents.Rents.{Rents}
use Rattle.facts_core.specs.declared.facts.Facts.{Facts}
use Rattle.record_history.specs.{declared.records.Kind.Kind, declared.records.Record.Record, Records.in_force, Records.is_withdrawal, Records.newest_number}
use Rattle.record_history.proofs.{ForceLemmas.one_now, Kept.records_past}
use Rattle.rent_table.specs.{declared.plan.Plan.Plan, declared.rows.Unit.Unit as UnitRow, Table.unit_at, Table.rents_on}
use Rattle.book_rows.specs.{declared.rows.Batch.Batch, declared.command.Command.Command, declared.household.HouseholdAct.HouseholdAct, declared.household.HouseholdChange.HouseholdChange, declared.certifications.CorrectAct.CorrectAct, declared.moves.WithdrawAct.WithdrawAct, Book.Book}
use Rattle.office_step.specs.{declared.call.Capacity.Capacity, declared.heading.Heading.Heading, declared.refusal.Named.Named, declared.refusal.Refusal.Refusal, Known.Known, Known.known_of, Known.own_in, Households.record_at, Households.continued, Households.unit_continued, Households.rests_on_facts, After.names_given, After.households_after, Step.IsAppended, Step.IsReached}
use Rattle.office_step.specs.Matter.{Matter, Basis, from_facts, carried, nothing, certifies, matter_of}
use Rattle.office_step.specs.Made.{rents_in_unit, made_of_facts, made_of_carried, made_of_nothing, made_on, heading_in, own_heading, correction_heading, withdrawal_heading, record_in, record_of}
use Rattle.office_step.specs.Against.{no_such, no_rent, no_rent_on, may_be_named}
use Rattle.office_step.specs.plain.Counting.{AllInTurn}
use Rattle.office_step.proofs.{Headed.changing, Headed.IsUnder, Headed.under, Plans.is_plan, Passed.test_passed, Passed.are_there, Passed.household_there, Exactly.Options.and_then-some}
use Rattle.office_laws.proofs.{Inversion.passes, Known.next, Known.by_acts, Own.more_of, Own.own_after, Own.owned, Reached.plan_there, AllSound.reached_books_are_sound}

abbrev pub IsMade : Option Record → Type 0
IsMade made = (r : Record) × (made ≡ Some r)

-- the act makes a record
abbrev pub Makes : Known → Command → Type 0
Makes known (Command.Start start) = IsMade (record_of known (Command.Start start))
Makes known (Command.Admit admit) = IsMade (record_of known (Command.Admit admit))
Makes known (Command.Household act) = IsMade (record_of known (Command.Household act))
Makes known _ = ⊤

not_none : (made : Option Record) → (made ≡ None → ⊥) → IsMade made
not_none None never = absurd (never refl)
not_none (Some r) never = (r, refl)

found : {X : Type 0} (o : Option X) → is_some o ≡ true → (x : X) × (o ≡ Some x)
found (Some x) some = (x, refl)
found None some = absurd (false≢true some)

stays : (kind : Kind) → kind ≢ Kind.WD → is_withdrawal kind ≡ false
stays Kind.WD other = absurd (other refl)
stays _ other = refl

-- ---- rents

module _ (known : Known) (heading : Heading) where
  rents_there : is_some (unit_at known.units heading.unit) ≡ true → no_rent_on known heading ≡ None →
      (rents : Rents) × (rents_in_unit known heading.unit heading.from ≡ Some rents)
  rents_there there free =
      let unit = found (unit_at known.units heading.unit) there in
      let tried = sym (ap (option_and_then (λ (unit : UnitRow). if is_some (rents_on known.rents unit.group heading.from) then None else Some (Refusal.NoRent unit.group heading.from))) unit.1) ∙ free in
      let rents = found (rents_on known.rents unit.0.group heading.from)
      (test_passed (is_some (rents_on known.rents unit.0.group heading.from)) (Refusal.NoRent unit.0.group heading.from) tried) in
      (rents.0, ap (option_and_then (λ (unit : UnitRow). rents_on known.rents unit.group heading.from)) unit.1 ∙ rents.1)

  facts_made : (facts : Facts) (plan : Plan) → known.plan ≡ Some plan → is_some (unit_at known.units heading.unit) ≡ true → no_rent_on known heading ≡ None →
      IsMade (made_of_facts known heading facts)
  facts_made facts plan planned there free =
      let stand = rents_there there free in
      not_none (made_of_facts known heading facts) (λ none. (let left = rw (planned, stand.1) at none in cc))

  carried_made : (held : Record) → continued (own_in known heading.household) heading.from ≡ Some held → is_some (unit_at known.units heading.unit) ≡ true →
      no_rent_on known heading ≡ None → IsMade (made_of_carried known heading)
  carried_made held continues there free =
      let stand = rents_there there free in
      not_none (made_of_carried known heading) (λ none. (let left = rw (continues, stand.1) at none in cc))

  -- a record that certifies something is for a unit of the table
  in_table : (r : Record) (rents : Rents) → rents_in_unit known heading.unit heading.from ≡ Some rents → r.unit ≡ heading.unit → is_some (unit_at known.units r.unit) ≡ true
  in_table r rents stand same =
      let unit = and_then-some (λ (unit : UnitRow). rents_on known.rents unit.group heading.from) (unit_at known.units heading.unit) rents stand in
      ap (λ (n : ℕ). is_some (unit_at known.units n)) same ∙ ap is_some unit.1

  housed_made : (basis : Basis) (r : Record) → certifies basis ≡ true → made_on known basis heading ≡ Some r → is_some (unit_at known.units r.unit) ≡ true
  housed_made (from_facts facts) r some is =
      option_and_then_some _ known.plan r is (λ plan given of_plan.
      option_map_some _ (rents_in_unit known heading.unit heading.from) r of_plan (λ rents stand same.
      in_table r rents stand (ap (λ (r : Record). r.unit) (under known (from_facts facts) heading r is).is)))
  housed_made carried r some is =
      option_and_then_some _ (continued (own_in known heading.household) heading.from) r is (λ held continues of_held.
      option_map_some _ (rents_in_unit known heading.unit heading.from) r of_held (λ rents stand same.
      in_table r rents stand (ap (λ (r : Record). r.unit) (under known carried heading r is).is)))
  housed_made nothing r some is = absurd (false≢true some)

-- ---- what each household has

-- a record 1 that withdraws nothing
abbrev HasFirst : List Record → Type 0
HasFirst own = (r : Record) × (record_at own 1 ≡ Some r) × (is_withdrawal r.kind ≡ false)

-- unless it withdraws, it is for a unit of the table
abbrev IsHoused : Known → Record → Type 0
IsHoused known r = is_withdrawal r.kind ≡ false → is_some (unit_at known.units r.unit) ≡ true

record AreFounded (known : Known) : Type 0 where
  first : (household : ℕ) → 1 ≤ household → household ≤ length known.households → HasFirst (own_in known household)
  housed : (household : ℕ) → All (IsHoused known) (own_in known household)

module _ (known : Known) (kept : AllInTurn known) (founded : AreFounded known) where
  module _ (household : ℕ) (least : 1 ≤ household) (most : household ≤ length known.households) where
    abbrev own : List Record
    own = own_in known household

    of_table : (held : Record) → Contains own held → is_withdrawal held.kind ≡ false → is_some (unit_at known.units held.unit) ≡ true
    of_table held there = All-contains (IsHoused known) own held (founded.housed household) there

    continued_there : (from : ℕ) → (held : Record) × (continued own from ≡ Some held) × (is_some (unit_at known.units held.unit) ≡ true)
    continued_there from = by_force (in_force own from) refl
      where
        by_force : (standing : Option Record) → in_force own from ≡ standing → (held : Record) × (continued own from ≡ Some held) × (is_some (unit_at known.units held.unit) ≡ true)
        by_force (Some held) some =
            let is = ((one_now own from (kept household).numbered).some held).0 some in
            (held, ap (λ (o : Option Record). option_or o (record_at own 1)) some, of_table held is.counts.known (stays held.kind is.counts.withdraws_nothing))
        by_force None none =
            let one = founded.first household least most in
            let there = find_holds (λ (held : Record). held.number == 1) (Contains own) own one.0 one.1 (All-contains_itself own) in
            (one.0, ap (λ (o : Option Record). option_or o (record_at own 1)) none ∙ one.1, of_table one.0 there.0 one.2)

    own_unit : (from : ℕ) → is_some (unit_at known.units (unit_continued own from)) ≡ true
    own_unit from =
        let held = continued_there from in
        ap (λ (o : Option Record). is_some (unit_at known.units (option_map_or (λ r. r.unit) o 0))) held.1 ∙ held.2

  -- ---- a record comes of the act

  of_facts : (heading : Heading) (facts : Facts) → ((plan : Plan) × (known.plan ≡ Some plan)) → is_some (unit_at known.units heading.unit) ≡ true →
      no_rent_on known heading ≡ None → IsMade (made_of_facts known heading facts)
  of_facts heading facts planned there free = facts_made known heading facts planned.0 planned.1 there free

  unit_named : (unit : ℕ) → (if is_some (unit_at known.units unit) then None else Some (Refusal.NoSuch Named.Unit unit)) ≡ None → is_some (unit_at known.units unit) ≡ true
  unit_named unit free = test_passed (is_some (unit_at known.units unit)) (Refusal.NoSuch Named.Unit unit) free

  module _ (act : HouseholdAct) where
    abbrev about : HouseholdChange → Matter
    about done = changing known act done

    abbrev its : List Record
    its = own_in known act.household

    rests : (kind : Kind) → rests_on_facts kind ≡ true → is_withdrawal kind ≡ false
    rests Kind.WD is = absurd (false≢true is)
    rests _ is = refl

    target_there : (named : Record → Bool) (target : ℕ) →
        (if option_map_or named (record_at its target) false then None else Some (Refusal.NoSuch Named.Record target)) ≡ None →
        (r : Record) × (record_at its target ≡ Some r) × (named r ≡ true)
    target_there named target free = by_found (record_at its target) refl (test_passed (option_map_or named (record_at its target) false) (Refusal.NoSuch Named.Record target) free)
      where
        by_found : (o : Option Record) → record_at its target ≡ o → option_map_or named o false ≡ true → (r : Record) × (record_at its target ≡ Some r) × (named r ≡ true)
        by_found None none passes = absurd (false≢true passes)
        by_found (Some r) some passes = (r, some, passes)

    corrected : (correct : CorrectAct) → ((plan : Plan) × (known.plan ≡ Some plan)) → 1 ≤ act.household → act.household ≤ length known.households →
        no_such (about (HouseholdChange.Correct correct)) ≡ None → no_rent (about (HouseholdChange.Correct correct)) ≡ None →
        IsMade (record_in (about (HouseholdChange.Correct correct)))
    corrected correct planned least most names free =
        let target = target_there (may_be_named (about (HouseholdChange.Correct correct))) correct.target (are_there (about (HouseholdChange.Correct correct)) names).target in
        let heading : Heading = correction_heading act.household target.0 correct.from in
        let is : heading_in (about (HouseholdChange.Correct correct)) ≡ Some heading = ap (option_map (λ target. correction_heading act.household target correct.from)) target.1 in
        let held = find_holds (λ (held : Record). held.number == correct.target) (Contains its) its target.0 target.1 (All-contains_itself its) in
        let tried : no_rent_on known heading ≡ None = sym (ap (option_and_then (no_rent_on known)) is) ∙ free in
        subst IsMade (sym (ap (option_and_then (made_on known (from_facts correct.facts))) is))
        (of_facts heading correct.facts planned (of_table act.household least most target.0 held.0 (rests target.0.kind target.2)) tried)

    withdrawn : (withdraw : WithdrawAct) → no_such (about (HouseholdChange.Withdraw withdraw)) ≡ None → IsMade (record_in (about (HouseholdChange.Withdraw withdraw)))
    withdrawn withdraw names =
        let target = target_there (may_be_named (about (HouseholdChange.Withdraw withdraw))) withdraw.target (are_there (about (HouseholdChange.Withdraw withdraw)) names).target in
        let heading : Heading = withdrawal_heading act.household target.0 in
        let is : heading_in (about (HouseholdChange.Withdraw withdraw)) ≡ Some heading = ap (option_map (λ target. withdrawal_heading act.household target)) target.1 in
        (made_of_nothing known heading, ap (option_and_then (made_on known nothing)) is)

    change_made : (done : HouseholdChange) → ((plan : Plan) × (known.plan ≡ Some plan)) → no_such (about done) ≡ None → no_rent (about done) ≡ None → IsMade (record_in (about done))
    change_made done planned names free = by_change done names free
      where
        at : (done : HouseholdChange) → no_such (about done) ≡ None → (1 ≤ act.household) × (act.household ≤ length known.households)
        at done names = household_there known act.household (are_there (about done) names).household

        by_change : (done : HouseholdChange) → no_such (about done) ≡ None → no_rent (about done) ≡ None → IsMade (record_in (about done))
        by_change (HouseholdChange.Annual annual) names free =
            let there = at (HouseholdChange.Annual annual) names in
            of_facts (own_heading (about (HouseholdChange.Annual annual)) Kind.AR) annual.facts planned (own_unit act.household there.0 there.1 annual.from) free
        by_change (HouseholdChange.Interim interim) names free =
            let there = at (HouseholdChange.Interim interim) names in
            of_facts (own_heading (about (HouseholdChange.Interim interim)) Kind.IR) interim.facts planned (own_unit act.household there.0 there.1 interim.from) free
        by_change (HouseholdChange.Resume resume) names free =
            let there = at (HouseholdChange.Resume resume) names in
            of_facts (own_heading (about (HouseholdChange.Resume resume)) Kind.IC) resume.facts planned (own_unit act.household there.0 there.1 resume.from) free
        by_change (HouseholdChange.Gross gross) names free =
            let there = at (HouseholdChange.Gross gross) names in
            let held = continued_there act.household there.0 there.1 gross.from in
            carried_made known (own_heading (about (HouseholdChange.Gross gross)) Kind.GR) held.0 held.1 (own_unit act.household there.0 there.1 gross.from) free
        by_change (HouseholdChange.Correct correct) names free =
            let there = at (HouseholdChange.Correct correct) names in corrected correct planned there.0 there.1 names free
        by_change (HouseholdChange.Transfer transfer) names free =
            let there = at (HouseholdChange.Transfer transfer) names in
            let held = continued_there act.household there.0 there.1 transfer.from in
            carried_made known (own_heading (about (HouseholdChange.Transfer transfer)) Kind.UT) held.0 held.1
            (unit_named transfer.unit (are_there (about (HouseholdChange.Transfer transfer)) names).unit) free
        by_change (HouseholdChange.MoveOut move_out) names free = (made_of_nothing known (own_heading (about (HouseholdChange.MoveOut move_out)) Kind.MO), refl)
        by_change (HouseholdChange.Terminate terminate) names free = (made_of_nothing known (own_heading (about (HouseholdChange.Terminate terminate)) Kind.TM), refl)
        by_change (HouseholdChange.Withdraw withdraw) names free = withdrawn withdraw names

  makes : (asked : Command) → (is_plan asked ≡ false → (plan : Plan) × (known.plan ≡ Some plan)) → no_such (matter_of known asked) ≡ None →
      no_rent (matter_of known asked) ≡ None → Makes known asked
  makes (Command.Start start) planned names free =
      of_facts (own_heading (matter_of known (Command.Start start)) Kind.IC) start.facts (planned refl)
      (unit_named start.unit (are_there (matter_of known (Command.Start start)) names).unit) free
  makes (Command.Admit admit) planned names free =
      of_facts (own_heading (matter_of known (Command.Admit admit)) Kind.MI) admit.facts (planned refl)
      (unit_named admit.unit (are_there (matter_of known (Command.Admit admit)) names).unit) free
  makes (Command.Household act) planned names free = change_made act act.change (planned refl) names free
  makes _ planned names free = tt

  -- ---- with one act more

  some_or : {X : Type 0} (o other : Option X) → is_some o ≡ true → is_some (option_or o other) ≡ true
  some_or (Some x) other some = refl
  some_or None other some = absurd (false≢true some)

  housed_later : (asked : Command) (r : Record) → IsHoused known r → IsHoused (next known asked) r
  housed_later asked r housed stays =
      rw (find-append (λ (row : UnitRow). row.number == r.unit) known.units _) (some_or (unit_at known.units r.unit) _ (housed stays))

  module _ (act : HouseholdAct) (r : Record) where
    on_basis : (done : HouseholdChange) → certifies (changing known act done).basis ≡ true → record_in (changing known act done) ≡ Some r → IsHoused known r
    on_basis done some is =
        option_and_then_some (made_on known (changing known act done).basis) (heading_in (changing known act done)) r is (λ heading found made stays.
        housed_made known heading (changing known act done).basis r some made)

    on_nothing : (from : ℕ) (made : Record) → no_such (changing known act act.change) ≡ None → made.unit ≡ unit_continued (own_in known act.household) from →
        Some made ≡ Some r → IsHoused known r
    on_nothing from made names unit is stays =
        let there = household_there known act.household (are_there (changing known act act.change) names).household in
        ap (λ (r : Record). is_some (unit_at known.units r.unit)) (sym (same_Some made r is)) ∙ ap (λ (n : ℕ). is_some (unit_at known.units n)) unit
        ∙ own_unit act.household there.0 there.1 from

    new_housed : (done : HouseholdChange) → no_such (changing known act act.change) ≡ None → record_in (changing known act done) ≡ Some r → IsHoused known r
    new_housed (HouseholdChange.Annual annual) names is = on_basis (HouseholdChange.Annual annual) refl is
    new_housed (HouseholdChange.Interim interim) names is = on_basis (HouseholdChange.Interim interim) refl is
    new_housed (HouseholdChange.Resume resume) names is = on_basis (HouseholdChange.Resume resume) refl is
    new_housed (HouseholdChange.Gross gross) names is = on_basis (HouseholdChange.Gross gross) refl is
    new_housed (HouseholdChange.Correct correct) names is = on_basis (HouseholdChange.Correct correct) refl is
    new_housed (HouseholdChange.Transfer transfer) names is = on_basis (HouseholdChange.Transfer transfer) refl is
    new_housed (HouseholdChange.MoveOut move_out) names is = on_nothing (move_out.last + 1) _ names refl is
    new_housed (HouseholdChange.Terminate terminate) names is = on_nothing terminate.from _ names refl is
    new_housed (HouseholdChange.Withdraw withdraw) names is =
        option_and_then_some (made_on known nothing) (heading_in (changing known act (HouseholdChange.Withdraw withdraw))) r is (λ heading found made.
        option_map_some (λ target. withdrawal_heading act.household target) (record_at (own_in known act.household) withdraw.target) heading found (λ target at same stays.
        (let kind : r.kind ≡ Kind.WD = ap (λ (r : Record). r.kind) (sym (same_Some _ r made)) ∙ ap (λ (h : Heading). h.kind) (sym same) in
        absurd (false≢true (sym stays ∙ ap is_withdrawal kind)))))

  housed_by : (asked : Command) (r : Record) → no_such (matter_of known asked) ≡ None → record_of known asked ≡ Some r → IsHoused known r
  housed_by (Command.Start start) r names is = λ stays_so. housed_made known (own_heading (matter_of known (Command.Start start)) Kind.IC) (from_facts start.facts) r refl is
  housed_by (Command.Admit admit) r names is = λ stays_so. housed_made known (own_heading (matter_of known (Command.Admit admit)) Kind.MI) (from_facts admit.facts) r refl is
  housed_by (Command.Household act) r names is = new_housed act r act.change names is
  housed_by _ r names is = absurd (cc)

  housed_next : (asked : Command) → no_such (matter_of known asked) ≡ None → (household : ℕ) → All (IsHoused (next known asked)) (own_in (next known asked) household)
  housed_next asked names household =
      owned (All (IsHoused (next known asked))) known asked names household (later household) (λ r is same.
      All-push (IsHoused (next known asked)) (own_in known r.household) r (later r.household) (housed_later asked r (housed_by asked r names is)))
    where
      later : (household : ℕ) → All (IsHoused (next known asked)) (own_in known household)
      later household = All-weaker (IsHoused known) (IsHoused (next known asked)) (housed_later asked) (own_in known household) (founded.housed household)

  first_longer : (own more : List Record) → HasFirst own → HasFirst (own ++ more)
  first_longer own more (r, is, stays) =
      (r, find-append (λ (held : Record). held.number == 1) own more ∙ ap (λ (o : Option Record). option_or o (record_at more 1)) is, stays)

  longer : (asked : Command) → length (next known asked).households ≡ length known.households + length (names_given known asked)
  longer asked = by_made (record_of known asked)
    where
      by_made : (made : Option Record) → length (households_after known asked made) ≡ length known.households + length (names_given known asked)
      by_made None = grind (arith, common_steps)
      by_made (Some r) = grind (arith, common_steps)

  -- the first record of a household that comes
  begun : (heading : Heading) → heading.household ≡ length known.households + 1 → is_withdrawal heading.kind ≡ false → (r : Record) → IsUnder known heading r →
      (r.household ≡ length known.households + 1) × HasFirst (r ∷ [])
  begun heading new stays r its =
      let empty : own_in known heading.household ≡ [] = records_past known.households heading.household (omega (arith, new)) in
      let number : r.number ≡ 1 = ap (λ (r : Record). r.number) its.is ∙ ap (λ (own : List Record). newest_number own + 1) empty in (
        ap (λ (r : Record). r.household) its.is ∙ new,
        (r, ap (λ (b : Bool). if b then Some r else None) (eq-eqb r.number 1 number), ap (λ (r : Record). is_withdrawal r.kind) its.is ∙ stays),
      )

  first_new : (asked : Command) → Makes known asked → (household : ℕ) → length known.households < household → household ≤ length (next known asked).households →
      HasFirst (own_in known household ++ more_of (record_of known asked) household)
  first_new (Command.Start start) (r, is) household past most =
      let heading : Heading = own_heading (matter_of known (Command.Start start)) Kind.IC in
      let new = begun heading refl refl r (under known (from_facts start.facts) heading r is) in
      let same : household ≡ r.household = omega (arith, longer (Command.Start start), past, most, new.0) in
      rw (records_past known.households household past, is, eq-eqb household r.household same) new.1
  first_new (Command.Admit admit) (r, is) household past most =
      let heading : Heading = own_heading (matter_of known (Command.Admit admit)) Kind.MI in
      let new = begun heading refl refl r (under known (from_facts admit.facts) heading r is) in
      let same : household ≡ r.household = omega (arith, longer (Command.Admit admit), past, most, new.0) in
      rw (records_past known.households household past, is, eq-eqb household r.household same) new.1
  first_new asked made household past most = absurd (omega (arith, longer asked, past, most))

  founded_next : (asked : Command) → Makes known asked → no_such (matter_of known asked) ≡ None → AreFounded (next known asked)
  founded_next asked made names = record {
    first = λ household least most. subst HasFirst (sym (own_after known asked names household)) (by_place household least most (cases_lt (length known.households) household));
    housed = housed_next asked names;
  }
    where
      by_place : (household : ℕ) → 1 ≤ household → household ≤ length (next known asked).households → (length known.households < household) ⊎ (household ≤ length known.households) →
          HasFirst (own_in known household ++ more_of (record_of known asked) household)
      by_place household least most (inl past) = first_new asked made household past most
      by_place household least most (inr within) = first_longer (own_in known household) (more_of (record_of known asked) household) (founded.first household least within)

-- ---- the book

founded : (capacity : Capacity) (book : Book) → IsReached capacity book → AreFounded (known_of book)
founded capacity =
    by_acts AreFounded capacity
    (record { first = λ household least most. absurd (omega (arith, least, most)); housed = λ household k d within. absurd (grind (arith, common_steps, within)) })
    (λ book rows reached appends so_far.
    (let kept = (reached_books_are_sound capacity book reached appends.call.command).kept in
    let free = passes capacity book rows appends in
    founded_next (known_of book) kept so_far appends.call.command
    (makes (known_of book) kept so_far appends.call.command (plan_there capacity book rows reached appends) free.no_such free.no_rent) free.no_such))

pub record_is_made : (capacity : Capacity) (book : Book) (rows : Batch) → IsReached capacity book → (appends : IsAppended capacity book rows) →
    Makes (known_of book) appends.call.command
record_is_made capacity book rows reached appends =
    let free = passes capacity book rows appends in
    makes (known_of book) (reached_books_are_sound capacity book reached appends.call.command).kept (founded capacity book reached) appends.call.command
    (plan_there capacity book rows reached appends) free.no_such free.no_rent
