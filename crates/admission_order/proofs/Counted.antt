-- The admissions of the households so far, and of one more.
use Rattle.std.proofs.Common.{Bool, true, false, ◌≡◌, ◌∙◌, ap, sym, ℕ, ◌+◌, ◌<◌, ◌≤◌, List, [], ◌++◌, length, take, get_or, append-nil, arith, length-append, refl}
use Rattle.std.specs.Prelude.{◌&&◌, filter, count_by, sum_by, if◌then◌else◌}
use Rattle.std.proofs.lemmas.{List.take_more, List.Concat.flat_map-append, List.Elements.filter-append, List.Elements.filter_agree, Bool.Decides.nat_tests}
use Rattle.std.proofs.lemmas.List.Sums.{get_or-le-sum_by, sum_by-append, length-filter, count_by-le-length, sum_by_more, sum_by-take-le}
use Rattle.row_choice.proofs.LatestLemmas.{filter-filter}
use Rattle.days_core.specs.Calendar.{month_of}
use Rattle.record_history.specs.{declared.records.Record.Record, Records.is_live, Records.live_records, Held.records_of, Held.AreNumbered, Ordered.AreInOrder}
use Rattle.rent_table.specs.declared.plan.Plan.{Plan}
use Rattle.office_register.specs.Below.office_step.Candidates.{fiscal_year, is_admission, admissions}
use Rattle.admission_order.specs.Admissions.{is_admission_of}
use Rattle.admission_order.proofs.AsMany.{as_many}

-- the records of the household at that place
pub records_at : (households : List (List Record)) (place : ℕ) → records_of households (place + 1) ≡ get_or households place []
records_at households place = grind (arith, nat_tests)

-- the admissions among the records of one household
abbrev pub admissions_among : Plan → ℕ → List Record → List Record
admissions_among plan day records = filter (is_admission plan day) (live_records records)

pub admissions-more : (plan : Plan) (day : ℕ) (households : List (List Record)) (place : ℕ) → place < length households →
    admissions plan day (take (place + 1) households) ≡ admissions plan day (take place households) ++ admissions_among plan day (records_of households (place + 1))
admissions-more plan day households place within =
    rw (take_more households place [] within, records_at households place) (simp (flat_map-append, filter-append, append-nil))

-- those of extremely low income, counted at once
pub extremely-among : (plan : Plan) (day : ℕ) (records : List Record) →
    length (filter (λ r. is_admission plan day r && r.extremely) (live_records records)) ≡ count_by (λ r. r.extremely) (admissions_among plan day records)
extremely-among plan day records =
    ap length (sym (filter-filter (λ (r : Record). r.extremely) (is_admission plan day) (live_records records)))
    ∙ length-filter (λ (r : Record). r.extremely) (admissions_among plan day records)

-- ---- the records of one household that count, in their order

either_way : (one other : Bool) → (one && other) ≡ (other && one)
either_way true true = refl
either_way true false = refl
either_way false true = refl
either_way false false = refl

-- are no more than all have records
pub few-live : (households : List (List Record)) (place : ℕ) (live : List Record) → place < length households → sum_by length households ≤ 100000 →
    length live ≤ length (records_of households (place + 1)) → length live ≤ 100000
few-live households place live within few own =
    omega (arith, own, ap length (records_at households place), get_or-le-sum_by length households place [] within, few)

module _ (plan : Plan) (day year : ℕ) (of_day : year ≡ fiscal_year plan (month_of day)) (own live : List Record) (numbered : AreNumbered own)
    (in_order : AreInOrder (live_records own) live) where
  -- as many are admissions as among those as they came
  pub all-counted : length (filter (is_admission_of plan year) live) ≡ length (admissions_among plan day own)
  all-counted =
      ap (λ (year : ℕ). length (filter (is_admission_of plan year) live)) of_day ∙ as_many own live numbered in_order (is_admission plan day)

  pub extremely-counted : length (filter (λ r. r.extremely && is_admission_of plan year r) live)
      ≡ length (filter (λ r. is_admission plan day r && r.extremely) (live_records own))
  extremely-counted =
      ap (λ (year : ℕ). length (filter (λ (r : Record). r.extremely && is_admission_of plan year r) live)) of_day
      ∙ ap length (filter_agree (λ (r : Record). r.extremely && is_admission plan day r) (λ r. is_admission plan day r && r.extremely)
      (λ r. either_way r.extremely (is_admission plan day r)) live)
      ∙ as_many own live numbered in_order (λ r. is_admission plan day r && r.extremely)

-- ---- household after household

-- what is counted of so many households: no more than they have records
pub record SoFar (plan : Plan) (day : ℕ) (households : List (List Record)) (place admitted extremely : ℕ) : Type 0 where
  pub all : admitted ≡ length (admissions plan day (take place households))
  pub low : extremely ≡ count_by (λ r. r.extremely) (admissions plan day (take place households))
  pub few : admitted ≤ sum_by length (take place households)

-- of one household
pub record Among (plan : Plan) (day : ℕ) (records : List Record) (admitted extremely : ℕ) : Type 0 where
  pub all : admitted ≡ length (admissions_among plan day records)
  pub low : extremely ≡ length (filter (λ r. is_admission plan day r && r.extremely) (live_records records))

few_of_records : (plan : Plan) (day : ℕ) (records : List Record) → length (admissions_among plan day records) ≤ length records
few_of_records plan day records =
    omega (
      arith,
      length-filter (is_admission plan day) (live_records records),
      count_by-le-length (is_admission plan day) (live_records records),
      length-filter (is_live records) records,
      count_by-le-length (is_live records) records,
    )

module _ (plan : Plan) (day : ℕ) (households : List (List Record)) (place : ℕ) where
  few_next : (more : ℕ) → place < length households → more ≡ length (admissions_among plan day (records_of households (place + 1))) →
      sum_by length (take place households) + more ≤ sum_by length (take (place + 1) households)
  few_next more within all =
      omega (arith, all, few_of_records plan day (records_of households (place + 1)), sum_by_more length households place [] within, ap length (records_at households place))

  -- no more than all have records
  pub few-more : (admitted more : ℕ) → place < length households → admitted ≤ sum_by length (take place households) →
      more ≡ length (admissions_among plan day (records_of households (place + 1))) → admitted + more ≤ sum_by length households
  few-more admitted more within few all = omega (arith, few, few_next more within all, sum_by-take-le length households (place + 1))

  pub so_far-more : (admitted extremely more more_extremely : ℕ) → place < length households → SoFar plan day households place admitted extremely →
      Among plan day (records_of households (place + 1)) more more_extremely →
      SoFar plan day households (place + 1) (admitted + more) (extremely + more_extremely)
  so_far-more admitted extremely more more_extremely within so_far among = record {
    all = rw (admissions-more plan day households place within, length-append, so_far.all, among.all) refl;
    low = rw (admissions-more plan day households place within, sum_by-append (λ (r : Record). if r.extremely then 1 else 0), so_far.low, among.low, extremely-among plan day (records_of households (place + 1))) refl;
    few = omega (arith, so_far.few, few_next more within among.all);
  }

  -- no more of extremely low income than all
  pub few-extremely : (admitted extremely : ℕ) → SoFar plan day households place admitted extremely → extremely ≤ sum_by length households
  few-extremely admitted extremely so_far =
      omega (arith, so_far, sum_by-take-le length households place, count_by-le-length (λ (r : Record). r.extremely) (admissions plan day (take place households)))
