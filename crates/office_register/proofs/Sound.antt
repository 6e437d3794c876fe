-- What holds of everything that is known holds again when there is more.
use Rattle.office_register.proofs.Words.{nat_tests, ◌≡◌, refl, sym, subst, ℕ, ◌+◌, ◌-◌, ◌≤◌, ◌<◌, List, [], ◌∷◌, ◌++◌, length, Option, Some, None, true, arith, All, not, ◌==◌, max, fold, sum_by, IfSome_then, length_push, length-set, set_past, All-push, All-filter, All-set, All-nil, All-tail, Record, records_of, with_record, Plan, UnitRow, RentRow, Applicant, without, is_plan, are_rents, Known, HasDates, AreUnits, AreRents, AreLimits, AreApplicants, AreHouseholds, AreMembers, AllEligible, AreEligible, IsSound, with_household, with_further}
use Rattle.std.proofs.lemmas.List.Sums.{sum_by_push, sum_by-set}
use Rattle.record_history.specs.Records.{newest_act}
use Rattle.office_refusals.specs.Below.office_step.Eligible.{eligible_of_record}
use Rattle.office_refusals.proofs.Below.office_step.Members.{eligible_last, eligible_longer}
use Rattle.rent_table.specs.declared.rows.LimitRow.{LimitRow}
use Rattle.days_core.specs.OfficeDays.{last_office_month}
use Rattle.office_refusals.specs.Below.office_step.declared.known.{Application.Application, Request.Request, Closed.Closed}
use Rattle.record_history.proofs.Latest.{records_are}

-- ---- a record among those of its household

-- the records of a household are among those of all
records_kept : (P : Record → Type 0) (households : List (List Record)) (household : ℕ) → All (All P) households → All P (records_of households household)
records_kept P households household all = records_are (All P) households household all (All-nil P)

record_pushed : (P : Record → Type 0) (households : List (List Record)) (r : Record) → All (All P) households → P r → All (All P) (with_record households r)
record_pushed P households r all is =
    All-set (All P) households (r.household - 1) (records_of households r.household ++ r ∷ [])
    (All-push P (records_of households r.household) r (records_kept P households r.household all) is) all

-- all have no more records than one more
one_more : (households : List (List Record)) (r : Record) → sum_by length (with_record households r) ≤ sum_by length households + 1
one_more households r =
    let records = records_of households r.household ++ r ∷ [] in
    grind (arith, nat_tests, sum_by-set (length {A = Record}) households (r.household - 1) records [], length_push (records_of households r.household) r, set_past households (r.household - 1) records)

-- ---- eligible members

-- each act still has its number, with one more of a record that it fits
members_longer : (count eligible : ℕ) (numbers : List ℕ) (households : List (List Record)) → AreMembers count numbers households →
    All (All (λ r. r.act ≤ count)) households → AreMembers (count + 1) (numbers ++ eligible ∷ []) households
members_longer count eligible numbers households are acts = record {
  one_each = omega (arith, length_push numbers eligible, are.one_each);
  all = eligible_longer numbers eligible households are.all
      (subst (λ (most : ℕ). All (All (λ r. r.act ≤ most)) households) (sym are.one_each) acts);
}

members_with : (count eligible : ℕ) (numbers : List ℕ) (households : List (List Record)) (r : Record) → AreMembers count numbers households →
    All (All (λ r. r.act ≤ count)) households → r.act ≡ count + 1 → AreEligible eligible r.size → AreMembers (count + 1) (numbers ++ eligible ∷ []) (with_record households r)
members_with count eligible numbers households r are acts act fits =
    let longer : AreMembers (count + 1) (numbers ++ eligible ∷ []) households = members_longer count eligible numbers households are acts in
    record {
      one_each = longer.one_each;
      all = record_pushed (λ r. AreEligible (eligible_of_record (numbers ++ eligible ∷ []) r) r.size) households r longer.all
          (rw (eligible_last numbers eligible r (omega (arith, act, are.one_each))) fits);
    }

-- ---- after one more act

module _ (known : Known) (s : IsSound known) (few : known.count < 100000) where
  -- with nothing more
  pub later : IsSound (record known { count = known.count + 1; eligible = known.eligible ++ 0 ∷ [] })
  later = record {
    count = omega arith;
    plan = s.plan;
    plan_act = s.plan_act;
    units = grind (arith, s.units);
    rents = grind (arith, s.rents);
    limits = grind (arith, s.limits);
    applicants = grind (arith, s.applicants);
    households = grind (arith, s.households);
    members = members_longer known.count 0 known.eligible known.households s.members s.households.acts;
    closing = IfSome_then known.closing s.closing (λ closed by. omega (arith, by));
  }

  -- with these rows
  with_rows : {units : List UnitRow} {rents : List RentRow} {limits : List LimitRow} {applications : List Application} {waiting : List Applicant}
      {names : List (List ℕ)} {households : List (List Record)} {requests : List (Option Request)} {eligible : List ℕ} →
      AreUnits (known.count + 1) units → AreRents (known.count + 1) rents → AreLimits (known.count + 1) limits → AreApplicants (known.count + 1) applications waiting →
      AreHouseholds (known.count + 1) names households requests → AreMembers (known.count + 1) eligible households →
      IsSound (record known {
        count = known.count + 1;
        units = units;
        rents = rents;
        limits = limits;
        applications = applications;
        waiting = waiting;
        names = names;
        households = households;
        requests = requests;
        eligible = eligible;
      })
  with_rows units rents limits applicants households members = record {
    count = later.count;
    plan = s.plan;
    plan_act = s.plan_act;
    units = units;
    rents = rents;
    limits = limits;
    applicants = applicants;
    households = households;
    members = members;
    closing = later.closing;
  }

  pub sound_plan : (plan : Plan) → is_plan plan ≡ true → IsSound (record known { count = known.count + 1; plan = Some plan; plan_act = Some (known.count + 1); eligible = known.eligible ++ 0 ∷ [] })
  sound_plan plan fit = record {
    count = later.count;
    plan = fit;
    plan_act = refl;
    units = later.units;
    rents = later.rents;
    limits = later.limits;
    applicants = later.applicants;
    households = later.households;
    members = later.members;
    closing = later.closing;
  }

  pub sound_unit : (unit : UnitRow) → unit.number ≡ length known.units + 1 → unit.bedrooms ≤ 5 →
      IsSound (record known { count = known.count + 1; units = known.units ++ unit ∷ []; eligible = known.eligible ++ 0 ∷ [] })
  sound_unit unit number bedrooms = with_rows units later.rents later.limits later.applicants later.households later.members
    where
      units : AreUnits (known.count + 1) (known.units ++ unit ∷ [])
      units =
          let long = length_push known.units unit in
          let numbers : All (λ u. u.number ≤ length (known.units ++ unit ∷ [])) known.units = grind (arith, s.units, long) in
          record {
            few = omega (arith, s.units.few, long);
            numbers = All-push (λ u. u.number ≤ length (known.units ++ unit ∷ [])) known.units unit numbers (omega (arith, long));
            bedrooms = All-push (λ u. u.bedrooms ≤ 5) known.units unit s.units.bedrooms bedrooms;
          }

  pub sound_rents : (row : RentRow) → row.act ≡ known.count + 1 → are_rents row.rents ≡ true →
      IsSound (record known { count = known.count + 1; rents = known.rents ++ row ∷ []; eligible = known.eligible ++ 0 ∷ [] })
  sound_rents row act within = with_rows later.units rents later.limits later.applicants later.households later.members
    where
      rents : AreRents (known.count + 1) (known.rents ++ row ∷ [])
      rents = record {
        within = All-push (λ r. are_rents r.rents ≡ true) known.rents row s.rents.within within;
        acts = All-push (λ r. r.act ≤ known.count + 1) known.rents row later.rents.acts (omega arith);
      }

  pub sound_limits : (row : LimitRow) → row.act ≡ known.count + 1 → IsSound (record known { count = known.count + 1; limits = known.limits ++ row ∷ []; eligible = known.eligible ++ 0 ∷ [] })
  sound_limits row act =
      with_rows later.units later.rents (All-push (λ r. r.act ≤ known.count + 1) known.limits row later.limits (omega arith)) later.applicants later.households later.members

  pub sound_application : (application : Application) (applicant : Applicant) → applicant.number ≡ length known.applications + 1 → applicant.act ≡ known.count + 1 →
      IsSound (record known { count = known.count + 1; applications = known.applications ++ application ∷ []; waiting = known.waiting ++ applicant ∷ []; eligible = known.eligible ++ 0 ∷ [] })
  sound_application application applicant number act = with_rows later.units later.rents later.limits applicants later.households later.members
    where
      applicants : AreApplicants (known.count + 1) (known.applications ++ application ∷ []) (known.waiting ++ applicant ∷ [])
      applicants =
          let long = length_push known.applications application in
          let numbers : All (λ a. a.number ≤ length (known.applications ++ application ∷ [])) known.waiting = grind (arith, s.applicants, long) in
          record {
            few = omega (arith, s.applicants.few, long);
            numbers = All-push (λ a. a.number ≤ length (known.applications ++ application ∷ [])) known.waiting applicant numbers (omega (arith, long));
            acts = All-push (λ a. a.act ≤ known.count + 1) known.waiting applicant later.applicants.acts (omega arith);
          }

  pub sound_request : (requests : List (Option Request)) → length requests ≡ length known.requests →
      IsSound (record known { count = known.count + 1; requests = requests; eligible = known.eligible ++ 0 ∷ [] })
  sound_request requests long =
      with_rows later.units later.rents later.limits later.applicants (record {
        few = later.households.few;
        records = later.households.records;
        one_name = later.households.one_name;
        one_request = omega (arith, long, s.households.one_request);
        acts = later.households.acts;
        dates = later.households.dates;
      })
      later.members

  pub sound_further : (r : Record) (eligible : ℕ) → r.act ≡ known.count + 1 → HasDates r → AreEligible eligible r.size → IsSound (with_further known r eligible)
  sound_further r eligible act dates fits =
      with_rows later.units later.rents later.limits later.applicants (record {
        few = rw length-set later.households.few;
        records = omega (arith, s.households.records, one_more known.households r);
        one_name = rw length-set later.households.one_name;
        one_request = rw length-set later.households.one_request;
        acts = record_pushed (λ r. r.act ≤ known.count + 1) known.households r later.households.acts (omega arith);
        dates = record_pushed HasDates known.households r s.households.dates dates;
      })
      (members_with known.count eligible known.eligible known.households r s.members s.households.acts act fits)

  pub sound_household : (name : List ℕ) (r : Record) (eligible : ℕ) → r.act ≡ known.count + 1 → HasDates r → AreEligible eligible r.size →
      IsSound (with_household known name r eligible)
  sound_household name r eligible act dates fits =
      let more = known.households ++ [] ∷ [] in
      let long = length_push known.households [] in
      let all = length-set more (r.household - 1) (records_of more r.household ++ r ∷ []) in
      with_rows later.units later.rents later.limits later.applicants (record {
        few = omega (arith, s.households.few, long, all);
        records = omega (arith, s.households.records, one_more more r, sum_by_push (length {A = Record}) known.households []);
        one_name = omega (arith, length_push known.names name, s.households.one_name, long, all);
        one_request = omega (arith, length_push known.requests None, s.households.one_request, long, all);
        acts = record_pushed (λ r. r.act ≤ known.count + 1) more r
            (All-push (All (λ r. r.act ≤ known.count + 1)) known.households [] later.households.acts (All-nil (λ r. r.act ≤ known.count + 1))) (omega arith);
        dates = record_pushed HasDates more r (All-push (All HasDates) known.households [] s.households.dates (All-nil HasDates)) dates;
      })
      (members_with known.count eligible known.eligible more r (record {
        one_each = s.members.one_each;
        all = All-push (All (λ r. AreEligible (eligible_of_record known.eligible r) r.size)) known.households [] s.members.all
            (All-nil (λ r. AreEligible (eligible_of_record known.eligible r) r.size));
      })
      (All-push (All (λ r. r.act ≤ known.count)) known.households [] s.households.acts (All-nil (λ r. r.act ≤ known.count))) act fits)

  pub sound_closing : (closing : Closed) → closing.month ≤ last_office_month → closing.act ≡ known.count + 1 →
      IsSound (record known { count = known.count + 1; eligible = known.eligible ++ 0 ∷ []; closing = Some closing })
  sound_closing closing month act = record {
    count = later.count;
    plan = s.plan;
    plan_act = s.plan_act;
    units = later.units;
    rents = later.rents;
    limits = later.limits;
    applicants = later.applicants;
    households = later.households;
    members = later.members;
    closing = record { month = month; act = omega (arith, act) };
  }

pub sound_without : (known : Known) (number : ℕ) → IsSound known → IsSound (record known { waiting = without number known.waiting })
sound_without known number s = record {
  count = s.count;
  plan = s.plan;
  plan_act = s.plan_act;
  units = s.units;
  rents = s.rents;
  limits = s.limits;
  applicants = record {
    few = s.applicants.few;
    numbers = All-filter (λ a. not (a.number == number)) (λ a. a.number ≤ length known.applications) known.waiting s.applicants.numbers;
    acts = All-filter (λ a. not (a.number == number)) (λ a. a.act ≤ known.count) known.waiting s.applicants.acts;
  };
  households = s.households;
  members = s.members;
  closing = s.closing;
}

-- ---- the newest act

newest_from : (count most : ℕ) (records : List Record) → most ≤ count → All (λ r. r.act ≤ count) records → fold (λ most r. max most r.act) most records ≤ count
newest_from count most [] by all = by
newest_from count most (r ∷ records) by all =
    newest_from count (max most r.act) records (omega (arith, by, all 0 r (omega arith))) (All-tail (λ r. r.act ≤ count) r records all)

pub newest_act_by : (count : ℕ) (households : List (List Record)) (household : ℕ) → All (All (λ r. r.act ≤ count)) households →
    newest_act (records_of households household) ≤ count
newest_act_by count households household all =
    newest_from count 0 (records_of households household) (omega arith) (records_kept (λ r. r.act ≤ count) households household all)
