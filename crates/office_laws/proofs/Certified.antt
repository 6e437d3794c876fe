-- What a record certifies, by how it is made.
use Rattle.std.proofs.Common.{◌≡◌, ◌≢◌, ◌∙◌, sym, ap, refl, subst, ℕ, ◌+◌, ◌*◌, ◌<◌, ◌≤◌, max, arith, ◌-◌, ◌&&◌, Bool, true, false, not, List, Option, Some, None, ◌==◌, nat_le, if◌then◌else◌}
use Rattle.std.specs.Prelude.{Contains, count_by, is_some}
use Rattle.std.specs.Option.{option_map_or, option_or}
use Rattle.std.proofs.lemmas.{Bool.Decides.nat_tests, Bool.leb-true, Bool.leb-false, Bool.eqb-true, Bool.false≢true, Option.option_and_then_some, List.Elements.All-contains_itself}
use Rattle.list_laws.proofs.{Finds.find_holds, Options.option_map_some}
use Rattle.days_core.specs.{declared.rents.Rents.Rents, Rounding.round_half_up}
use Rattle.facts_core.specs.{declared.members.Member.Member, declared.members.Relation.Relation, declared.facts.Facts.Facts, Rules.is_aide, Rules.eligible_members, Rules.broken_rule}
use Rattle.payment_rules.specs.Payment.{total_tenant_payment_of, minimum_rent_of, gross_rent_of, full_assistance_of, assistance_of, share_of_adjusted, share_of_annual}
use Rattle.record_history.specs.{declared.records.Kind.Kind, declared.records.Record.Record, Held.AreNumbered, Records.in_force}
use Rattle.record_history.proofs.ForceLemmas.{one_now}
use Rattle.rent_table.specs.{declared.plan.Plan.Plan, declared.rows.Unit.Unit as UnitRow, declared.rows.LimitRow.LimitRow, Admission.limit_for, Table.RentActsRise, Table.LimitActsRise, Table.unit_at, Table.rents_on, Table.limits_on}
use Rattle.rent_table.proofs.StandingLemmas.{row_sets_rents, row_sets_limits}
use Rattle.tenancy_rules.specs.Order.{is_move_in}
use Rattle.share_rules.proofs.SharesAdd.{nearest, at_most as part_at_most}
use Rattle.certified_figures.specs.{declared.figures.Figures.Figures, Figures.figures_of, Figures.size_of, Figures.carried_figures, Figures.carried_assistance, Figures.AreEligible}
use Rattle.certified_figures.proofs.Family.{HasFamily, has_family}
use Rattle.office_step.specs.{declared.heading.Heading.Heading, Known.Known, Known.UnitsAreNumbered, Known.own_in, Households.record_at, Households.continued, Households.unit_continued, Eligible.eligible_of_record, Eligible.AllEligible}
use Rattle.office_step.specs.Made.{rents_in_unit, made_with, made_of_facts, made_of_carried, told_extremely_low}
use Rattle.office_step.specs.plain.Facts.{is_family}
use Rattle.office_step.proofs.Members.{continued_in}
use Rattle.office_step.proofs.Exactly.{Options.and_then-some, Numbered.found_by_number}
use Rattle.office_laws.proofs.{CertifiedIncomes.annual_income, CertifiedIncomes.named, CertifiedDeductions.adjusted_income}
use Rattle.office_laws.specs.Closing.{HasRentsOfItsUnit}
use Rattle.office_laws.specs.Certifies.{family_eligible, ClaimsItsPart, CoversAll, TellsExtremelyLow, IsByFacts, IsContinued, in_force as by_force, first, IsCarriedOver, KeepsItsUnit}

-- ---- rents and assistance

its_rents : (known : Known) → UnitsAreNumbered known.units → RentActsRise known.rents → (r : Record) → rents_in_unit known r.unit r.from ≡ Some r.rents →
    HasRentsOfItsUnit known r.from r
its_rents known numbered rise r stand =
    let unit = and_then-some (λ (unit : UnitRow). rents_on known.rents unit.group r.from) (unit_at known.units r.unit) r.rents stand in
    let found = (found_by_number known.units r.unit unit.0 numbered).0 unit.1 in
    let row = (row_sets_rents known.rents unit.0.group r.from r.rents rise).0 unit.2 in
    record { unit = unit.0; row = row.0; held = found.0; numbered = found.1; sets = row.1; same = row.2 }

from_one : (units : List UnitRow) → UnitsAreNumbered units → (unit : UnitRow) → Contains units unit → 1 ≤ unit.number
from_one units numbered unit (k, within, is) = omega (arith, numbered k unit within, ap (λ (unit : UnitRow). unit.number) is)

-- the office claims no more than the gross rent
part_within : (ttp : ℕ) (rents : Rents) (eligible size : ℕ) → 1 ≤ size → eligible ≤ size → assistance_of ttp rents eligible size ≤ gross_rent_of rents
part_within ttp rents eligible size some among =
    let part = part_at_most (full_assistance_of ttp rents) eligible size (omega (arith, some)) among in
    let all : full_assistance_of ttp rents ≤ gross_rent_of rents = omega arith in
    omega (arith, part, all)

carried_within : (held : Record) (eligible : ℕ) (rents : Rents) → AreEligible eligible held.size → carried_assistance held eligible rents ≤ gross_rent_of rents
carried_within held eligible rents are = by_size (held.size == 0) refl
  where
    by_size : (none : Bool) → (held.size == 0) ≡ none → (if none then 0 else assistance_of held.ttp rents eligible held.size) ≤ gross_rent_of rents
    by_size true is = omega arith
    by_size false is = part_within held.ttp rents eligible held.size (grind (arith, nat_tests, is)) are.among

-- and claims the part of the eligible members
claims_part : (eligible : ℕ) (r : Record) → (1 ≤ r.size → r.assistance ≡ assistance_of r.ttp r.rents eligible r.size) → (r.size ≡ 0 → r.assistance ≡ 0) →
    ClaimsItsPart eligible r
claims_part eligible r some none = record {
  left = full_assistance_of r.ttp r.rents;
  leaves = omega arith;
  part = λ one. rw (some one) (nearest (full_assistance_of r.ttp r.rents * eligible) r.size (omega (arith, one)));
  nobody = none;
}

carried_some : (held : Record) (eligible : ℕ) (rents : Rents) → 1 ≤ held.size → carried_assistance held eligible rents ≡ assistance_of held.ttp rents eligible held.size
carried_some held eligible rents some = by_size (held.size == 0) refl
  where
    by_size : (none : Bool) → (held.size == 0) ≡ none → (if none then 0 else assistance_of held.ttp rents eligible held.size) ≡ assistance_of held.ttp rents eligible held.size
    by_size true is = absurd (grind (arith, nat_tests, is, some))
    by_size false is = refl

carried_none : (held : Record) (eligible : ℕ) (rents : Rents) → held.size ≡ 0 → carried_assistance held eligible rents ≡ 0
carried_none held eligible rents none = rw none refl

-- ---- payment

covers_thirty : (income : ℕ) → 30 * income < 1200 * round_half_up income 40 + 600
covers_thirty income = omega arith

covers_ten : (income : ℕ) → 10 * income < 1200 * round_half_up income 120 + 600
covers_ten income = omega arith

least_thirty : (income other : ℕ) → 30 * income < 1200 * other + 600 → round_half_up income 40 ≤ other
least_thirty income other covers = omega (arith, covers)

least_ten : (income other : ℕ) → 10 * income < 1200 * other + 600 → round_half_up income 120 ≤ other
least_ten income other covers = omega (arith, covers)

-- the greatest of four is no less than any of them, and the least such
greatest : (a b c d : ℕ) → (a ≤ max (max a b) (max c d)) × (b ≤ max (max a b) (max c d)) × (c ≤ max (max a b) (max c d)) × (d ≤ max (max a b) (max c d))
greatest a b c d = (omega arith, omega arith, omega arith, omega arith)

at_most : (a b c d other : ℕ) → a ≤ other → b ≤ other → c ≤ other → d ≤ other → max (max a b) (max c d) ≤ other
at_most a b c d other ea eb ec ed = omega (arith, ea, eb, ec, ed)

least_minimum : (exempt : Bool) (other : ℕ) → (exempt ≡ false → 25 ≤ other) → minimum_rent_of exempt ≤ other
least_minimum true other minimum = omega arith
least_minimum false other minimum = minimum refl

module _ (facts : Facts) (annual adjusted : ℕ) where
  abbrev payment : ℕ
  payment = total_tenant_payment_of annual adjusted facts.welfare facts.exempt

  covers_all : CoversAll facts annual adjusted payment
  covers_all =
      let most = greatest (share_of_adjusted adjusted) (share_of_annual annual) facts.welfare (minimum_rent_of facts.exempt) in record {
        of_adjusted = omega (arith, covers_thirty adjusted, most.0);
        of_annual = omega (arith, covers_ten annual, most.1);
        welfare = most.2;
        minimum = λ bound. (let least : minimum_rent_of facts.exempt ≡ 25 = ap minimum_rent_of bound in omega (arith, least, most.3));
      }

  least_all : (other : ℕ) → CoversAll facts annual adjusted other → payment ≤ other
  least_all other covers =
      at_most (share_of_adjusted adjusted) (share_of_annual annual) facts.welfare (minimum_rent_of facts.exempt) other
      (least_thirty adjusted other covers.of_adjusted) (least_ten annual other covers.of_annual) covers.welfare (least_minimum facts.exempt other covers.minimum)

-- ---- by facts

family : (relation : Relation) → not (is_aide relation) ≡ is_family relation
family Relation.Aide = refl
family _ = refl

pub eligible_family : (facts : Facts) → eligible_members facts ≡ family_eligible facts
eligible_family facts = ap (λ (p : Member → Bool). count_by p facts.members) (λ i member. family member.relation i && member.eligible)

tells_low : (known : Known) → LimitActsRise known.limits → (r : Record) (row : LimitRow) → limits_on known.limits r.from ≡ Some row →
    r.extremely ≡ nat_le r.annual (limit_for row.extremely_low r.size) → TellsExtremelyLow known r
tells_low known rise r row on told = record {
  row = row;
  stands = (row_sets_limits known.limits r.from row rise).0 on;
  is = λ low. leb-true r.annual (limit_for row.extremely_low r.size) (sym told ∙ low);
  is_not = λ high. leb-false r.annual (limit_for row.extremely_low r.size) (sym told ∙ high);
}

by_move_in : (kind : Kind) (limits : Option LimitRow) (row : LimitRow) (figures : Figures) → kind ≡ Kind.MI → limits ≡ Some row →
    told_extremely_low kind limits figures ≡ nat_le figures.annual (limit_for row.extremely_low figures.size)
by_move_in kind limits row figures moves on = rw (moves, on) refl

by_other : (kind : Kind) (limits : Option LimitRow) (figures : Figures) → kind ≢ Kind.MI → told_extremely_low kind limits figures ≡ false
by_other Kind.MI limits figures other = absurd (other refl)
by_other _ limits figures other = refl

there : {A : Type 0} (found : Option A) → is_some found ≡ true → (x : A) × (found ≡ Some x)
there (Some x) some = (x, refl)
there None some = absurd (false≢true some)

module _ (known : Known) (numbered : UnitsAreNumbered known.units) (rise : RentActsRise known.rents) (limits_rise : LimitActsRise known.limits) where
  module _ (heading : Heading) (facts : Facts) (kept : broken_rule facts heading.from ≡ None) (limits : is_move_in heading.kind ≡ true → is_some (limits_on known.limits heading.from) ≡ true) where
    by_figures : (plan : Plan) (rents : Rents) → known.plan ≡ Some plan → rents_in_unit known heading.unit heading.from ≡ Some rents → (figures : Figures) →
        figures ≡ figures_of facts heading.from plan.passbook rents →
        IsByFacts known facts (made_with known heading (told_extremely_low heading.kind (limits_on known.limits heading.from) figures) figures)
    by_figures plan rents planned stand figures is =
        let of : Figures = figures_of facts heading.from plan.passbook rents in
        let has : HasFamily facts = has_family facts heading.from kept in
        let r : Record = made_with known heading (told_extremely_low heading.kind (limits_on known.limits heading.from) figures) figures in record {
          plan = plan;
          planned = planned;
          certifies = record {
            rents = its_rents known numbered rise r (stand ∙ ap (λ (figures : Figures). Some figures.rents) (sym is));
            within = rw is (part_within of.ttp rents (eligible_members facts) (size_of facts) has.one has.eligible);
          };
          persons = ap (λ (figures : Figures). figures.persons) is;
          size = ap (λ (figures : Figures). figures.size) is ∙ ap (λ (p : Member → Bool). count_by p facts.members) (λ i member. family member.relation i);
          annual = rw is (annual_income facts heading.from plan.passbook kept);
          adjusted = rw is (adjusted_income facts heading.from of.annual (named facts heading.from kept));
          payment = rw is (record { covers = covers_all facts of.annual of.adjusted; least = least_all facts of.annual of.adjusted });
          eligible = rw (← eligible_family facts, is) (claims_part (eligible_members facts) (made_with known heading (told_extremely_low heading.kind (limits_on known.limits heading.from) of) of)
              (λ some. refl) (λ none. absurd (omega (arith, none, has.one))));
          move_in = λ moves.
              (let row = there (limits_on known.limits heading.from) (limits (ap is_move_in moves)) in
              tells_low known limits_rise r row.0 row.1 (by_move_in heading.kind (limits_on known.limits heading.from) row.0 figures moves row.1));
          other = by_other heading.kind (limits_on known.limits heading.from) figures;
        }

    pub by_facts : (r : Record) → made_of_facts known heading facts ≡ Some r → IsByFacts known facts r
    by_facts r is =
        option_and_then_some _ known.plan r is (λ plan given of_plan.
        option_map_some _ (rents_in_unit known heading.unit heading.from) r of_plan (λ rents stand same.
        subst (IsByFacts known facts) same (by_figures plan rents given stand (figures_of facts heading.from plan.passbook rents) refl)))

  -- ---- carried over

  module _ (own : List Record) (own_numbered : AreNumbered own) where
    pub is_continued : (day : ℕ) (held : Record) → continued own day ≡ Some held → IsContinued own day held
    is_continued day held = by_found (in_force own day) refl
      where
        by_found : (found : Option Record) → in_force own day ≡ found → option_or found (record_at own 1) ≡ Some held → IsContinued own day held
        by_found (Some r) some is = by_force (((one_now own day own_numbered).some held).0 (some ∙ is))
        by_found None none is =
            let one = find_holds (λ (held : Record). held.number == 1) (Contains own) own held is (All-contains_itself own) in
            first ((one_now own day own_numbered).none.0 none) one.0 (eqb-true held.number 1 one.1)

    -- a unit that is in the table is that of a record that is continued
    pub keeps_unit : (r : Record) → HasRentsOfItsUnit known r.from r → r.unit ≡ unit_continued own r.from → KeepsItsUnit own r
    keeps_unit r rents is = by_found (continued own r.from) refl
      where
        by_found : (found : Option Record) → continued own r.from ≡ found → KeepsItsUnit own r
        by_found (Some held) some = record {
          held = held;
          continued = is_continued r.from held some;
          its = is ∙ ap (λ (o : Option Record). option_map_or (λ r. r.unit) o 0) some;
        }
        by_found None none =
            let zero : r.unit ≡ 0 = is ∙ ap (λ (o : Option Record). option_map_or (λ r. r.unit) o 0) none in
            absurd (omega (arith, from_one known.units numbered rents.unit rents.held, rents.numbered, zero))

  pub carried_over : (heading : Heading) → AreNumbered (own_in known heading.household) → AllEligible known.eligible known.households → (r : Record) →
      made_of_carried known heading ≡ Some r → IsCarriedOver known (own_in known heading.household) r
  carried_over heading own_numbered all r is =
      option_and_then_some _ (continued (own_in known heading.household) heading.from) r is (λ held continues of_held.
      option_map_some _ (rents_in_unit known heading.unit heading.from) r of_held (λ rents stand same.
      (let eligible : ℕ = eligible_of_record known.eligible held in
      let its : Record = made_with known heading false (carried_figures held eligible rents) in
      subst (IsCarriedOver known (own_in known heading.household)) same (record {
        certifies = record {
          rents = its_rents known numbered rise its stand;
          within = carried_within held eligible rents
              (continued_in (λ r. AreEligible (eligible_of_record known.eligible r) r.size) known heading.household heading.from held all continues);
        };
        held = held;
        continued = is_continued (own_in known heading.household) own_numbered heading.from held continues;
        persons = refl;
        size = refl;
        annual = refl;
        adjusted = refl;
        ttp = refl;
        eligible = claims_part eligible its (carried_some held eligible rents) (carried_none held eligible rents);
        extremely = refl;
      }))))
