-- Who is next for a unit.
use Rattle.std.specs.Prelude.{ℕ, ◌&&◌, not, nat_le, if◌then◌else◌, Bool, false, Option, None, List, [], ◌∷◌, filter, fold}
use Rattle.std.specs.Option.{option_map, option_map_or, option_or, option_copied}
use Rattle.rent_table.specs.{declared.plan.Plan.Plan, declared.rows.Unit.Unit as UnitRow, declared.rows.LimitRow.LimitRow, Admission.suits, Admission.admission_limit, Admission.has_extremely_low_income}
use Rattle.row_choice.specs.Latest.{comes_before, latest}
use Rattle.wait_list.specs.declared.{applicant.Applicant.Applicant, ask.Ask.Ask, ask.Candidate.Candidate}

-- What is asked about a unit on a day: the plan, the income limits that stand for the day, whether an extremely
-- low-income applicant is wanted, and of the households that would move there the first that needs accessible features
-- which the unit has, and the first other one.
pub record Asked : Type 0 where
  pub unit : UnitRow
  pub plan : Plan
  pub limits : Option LimitRow
  pub wanted : Bool
  pub needing : Option ℕ
  pub other : Option ℕ

-- the same of a question in code
abbrev pub asked_by : Ask → Asked
asked_by ask = record {
  unit = ask.unit.now;
  plan = ask.plan.now;
  limits = option_copied ask.limits;
  wanted = ask.wanted;
  needing = ask.needing;
  other = ask.other;
}

-- the applicant needs accessible features, and the unit has them
abbrev pub needs : Asked → Applicant → Bool
needs asked applicant = asked.unit.accessible && applicant.accessible

-- limits stand for the day, and the applicant's annual income is at most the admission limit of its size (24 CFR 5.653)
abbrev pub is_within_limit : Asked → Applicant → Bool
is_within_limit asked applicant =
    option_map_or (λ limits. nat_le applicant.annual (admission_limit asked.plan limits applicant.size)) asked.limits false

-- limits stand for the day, and its annual income is at most the extremely low one of its size (24 CFR 5.603(b))
abbrev pub is_extremely_low : Asked → Applicant → Bool
is_extremely_low asked applicant =
    option_map_or (λ limits. has_extremely_low_income limits applicant.size applicant.annual) asked.limits false

-- the applicant could be admitted to the unit (24 CFR 5.653; Handbook 4350.3 REV-1, chapter 3)
abbrev pub is_candidate : Asked → Applicant → Bool
is_candidate asked applicant = suits asked.plan asked.unit applicant.persons && is_within_limit asked applicant

-- another has the smaller rank, or the same and applied earlier (24 CFR 5.655; ties are an own rule)
abbrev pub stands_behind : Applicant → Applicant → Bool
stands_behind applicant other = comes_before other.rank other.act applicant.rank applicant.act

-- the first of the applicants
abbrev pub first_of : List Applicant → Option Applicant
first_of applicants = latest stands_behind applicants

-- the one of a group who is next: the first extremely low-income one where such a one is wanted and there is one, else
-- the first (24 CFR 5.653; Handbook, chapter 4)
abbrev pub next_of : Asked → List Applicant → Option Applicant
next_of asked group =
    if asked.wanted then option_or (first_of (filter (is_extremely_low asked) group)) (first_of group) else first_of group

-- those on the list who could be admitted
abbrev pub candidates : Asked → List Applicant → List Applicant
candidates asked applicants = filter (is_candidate asked) applicants

-- the one who is next of the candidates of a group
abbrev pub next_applicant : Asked → (Applicant → Bool) → List Applicant → Option Candidate
next_applicant asked is_of_group applicants =
    option_map (λ applicant. Candidate.Applicant applicant.number) (next_of asked (filter is_of_group (candidates asked applicants)))

-- a household that would move
abbrev pub mover_of : Option ℕ → Option Candidate
mover_of household = option_map (λ number. Candidate.Household number) household

-- Who is next of each group, the first group first: those who need accessible features go first to a unit that has them
-- (24 CFR 8.27(a)), and movers before applicants, whatever features their present unit has (own rules).
abbrev pub groups : Asked → List Applicant → List (Option Candidate)
groups asked applicants =
    mover_of asked.needing
    ∷ next_applicant asked (needs asked) applicants
    ∷ mover_of asked.other
    ∷ next_applicant asked (λ applicant. not (needs asked applicant)) applicants ∷ []

-- the next of the first group that isn't empty
abbrev pub first_there : List (Option Candidate) → Option Candidate
first_there nexts = fold option_or None nexts

-- who is next for the unit
abbrev pub next_candidate : Asked → List Applicant → Option Candidate
next_candidate asked applicants = first_there (groups asked applicants)
