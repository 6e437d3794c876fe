-- Every record that is neither a move-out, a termination nor a withdrawal began on a day on which its unit had rents.
use Rattle.office_laws.proofs.Words.{◌≡◌, refl, ℕ, ◌≤◌, arith, Bool, true, false, not, ◌&&◌, List, ◌++◌, Option, Some, None, All, ◌==◌, is_some, option_and_then, option_map, option_or, IsSomeAnd, option_and_then_some, same_Some, All-push, All-weaker, All-contains, Contains-append_left, find-append, IsLatest, latest-is, pairs_order, Kind, Record, is_withdrawal, UnitRow, unit_at, rents_before, rents_begin_by, rents_on, ends_assistance, unit_rents_on, Book, Command, Capacity, Heading, Known, known_of, own_in, record_at, continued, rents_in_unit, withdrawal_heading, Basis, from_facts, carried, nothing, certifies, matter_of, changing, made_on, heading_in, heading_of, record_of, no_such, HouseholdAct, IsReached, under_own, HouseholdChange, option_map_some, common_steps, nat_tests, RentRow}
use Rattle.office_laws.proofs.{Inversion.passes, Known.next, Known.by_acts, Own.owned}

-- ---- rents that stand once stand on

-- of a group, among more rows and on a later day too
rents_on_later : (rows more : List RentRow) (group day later : ℕ) → day ≤ later → is_some (rents_on rows group day) ≡ true →
    is_some (rents_on (rows ++ more) group later) ≡ true
rents_on_later rows more group day later by has =
    by_both _ _ (latest-is rents_before (rents_begin_by group day) rows (pairs_order (λ row. row.from) (λ row. row.act)))
    (latest-is rents_before (rents_begin_by group later) (rows ++ more) (pairs_order (λ row. row.from) (λ row. row.act))) has
  where
    by_both : (was is : Option RentRow) → IsLatest rents_before (rents_begin_by group day) rows was →
        IsLatest rents_before (rents_begin_by group later) (rows ++ more) is →
        is_some (option_map (λ row. row.rents) was) ≡ true → is_some (option_map (λ row. row.rents) is) ≡ true
    by_both None is was_law is_law has = absurd (cc)
    by_both (Some row) (Some other) was_law is_law has = refl
    by_both (Some row) None was_law is_law has =
        absurd (All-contains (λ row. rents_begin_by group later row ≡ true → IsSomeAnd {T = RentRow} None (λ best. rents_before best row ≡ false))
        (rows ++ more) row is_law.last (Contains-append_left rows more row was_law.among.0) (grind (arith, nat_tests, common_steps, was_law.among.1)))

-- the unit has rents on the day
abbrev pub has_rents : List UnitRow → List RentRow → ℕ → ℕ → Bool
has_rents units rents unit day = is_some (unit_rents_on units rents unit day)

-- and of a unit
pub rents-later : (units more_units : List UnitRow) (rents more_rents : List RentRow) (unit day later : ℕ) → day ≤ later →
    has_rents units rents unit day ≡ true → has_rents (units ++ more_units) (rents ++ more_rents) unit later ≡ true
rents-later units more_units rents more_rents unit day later by has =
    rw (find-append (λ (row : UnitRow). row.number == unit) units more_units) (by_unit (unit_at units unit) has)
  where
    by_unit : (found : Option UnitRow) → is_some (option_and_then (λ (row : UnitRow). rents_on rents row.group day) found) ≡ true →
        is_some (option_and_then (λ (row : UnitRow). rents_on (rents ++ more_rents) row.group later) (option_or found (unit_at more_units unit))) ≡ true
    by_unit None has = absurd (cc)
    by_unit (Some row) has = rents_on_later rents more_rents row.group day later by has

-- ---- the record that an act makes

some_given : {A B C : Type 0} (given : Option A) (make : A → B → C) (rents : Option B) (r : C) →
    option_and_then (λ a. option_map (make a) rents) given ≡ Some r → is_some rents ≡ true
some_given given make rents r is = grind (arith, common_steps, is)

stood : (known : Known) (basis : Basis) (heading : Heading) (r : Record) → certifies basis ≡ true → made_on known basis heading ≡ Some r →
    has_rents known.units known.rents heading.unit heading.from ≡ true
stood known (from_facts facts) heading r some is = some_given known.plan _ (rents_in_unit known heading.unit heading.from) r is
stood known carried heading r some is =
    some_given (continued (own_in known heading.household) heading.from) _ (rents_in_unit known heading.unit heading.from) r is
stood known nothing heading r some is = absurd (cc)

-- it certifies something
abbrev pub is_certifying : Kind → Bool
is_certifying kind = not (ends_assistance kind) && not (is_withdrawal kind)

abbrev pub BeganWithRents : Known → Record → Type 0
BeganWithRents known r = is_certifying r.kind ≡ true → has_rents known.units known.rents r.unit r.from ≡ true

-- a record of a kind that certifies something rests on something
on_basis : (known : Known) (act : HouseholdAct) (done : HouseholdChange) (heading : Heading) → heading_in (changing known act done) ≡ Some heading →
    is_certifying heading.kind ≡ true → certifies (changing known act done).basis ≡ true
on_basis known act (HouseholdChange.Correct correct) heading is some = refl
on_basis known act (HouseholdChange.Withdraw withdraw) heading is some =
    option_map_some (λ target. withdrawal_heading act.household target) (record_at (own_in known act.household) withdraw.target) heading is
    (λ target found same. rw (← same) at some)
on_basis known act _ heading is some = rw (← same_Some _ heading is) at some

basis_there : (known : Known) (asked : Command) (heading : Heading) → heading_of known asked ≡ Some heading → is_certifying heading.kind ≡ true →
    certifies (matter_of known asked).basis ≡ true
basis_there known (Command.Start start) heading is some = refl
basis_there known (Command.Admit admit) heading is some = refl
basis_there known (Command.Household act) heading is some = on_basis known act act.change heading is some
basis_there known _ heading is some = absurd (cc)

made_with_rents : (known : Known) (asked : Command) (r : Record) → record_of known asked ≡ Some r → BeganWithRents known r
made_with_rents known asked r is certifying =
    option_and_then_some (made_on known (matter_of known asked).basis) (heading_of known asked) r is (λ heading found made.
    (let own = under_own known asked r is heading found in
    rw own.is (stood known (matter_of known asked).basis heading r (basis_there known asked heading found (rw own.is at certifying)) made)))

-- ---- every record

began_later : (known : Known) (asked : Command) (own : List Record) → All (BeganWithRents known) own → All (BeganWithRents (next known asked)) own
began_later known asked =
    All-weaker (BeganWithRents known) (BeganWithRents (next known asked)) (λ r began certifying.
    rents-later known.units _ known.rents _ r.unit r.from r.from (omega arith) (began certifying))

began_more : (known : Known) (asked : Command) → no_such (matter_of known asked) ≡ None → ((household : ℕ) → All (BeganWithRents known) (own_in known household)) →
    (household : ℕ) → All (BeganWithRents (next known asked)) (own_in (next known asked) household)
began_more known asked named began household =
    owned (All (BeganWithRents (next known asked))) known asked named household (began_later known asked _ (began household)) (λ r is same.
    began_later known asked _ (All-push (BeganWithRents known) (own_in known r.household) r (began r.household) (made_with_rents known asked r is)))

pub began_with_rents : (capacity : Capacity) (book : Book) → IsReached capacity book →
    (household : ℕ) → All (BeganWithRents (known_of book)) (own_in (known_of book) household)
began_with_rents capacity =
    by_acts (λ known. (household : ℕ) → All (BeganWithRents known) (own_in known household)) capacity (λ household k d within. absurd (grind (arith, common_steps, within)))
    (λ book rows reached appends. began_more (known_of book) appends.call.command (passes capacity book rows appends).no_such)
