-- Who is rightly next for a unit, in plain facts (24 CFR 5.653, 5.655 and 8.27; Handbook 4350.3 REV-1, chapters 3 and 4; that
-- movers come before applicants, and the ties, are own rules).
use Rattle.std.specs.Prelude.{◌≡◌, ◌-◌, ◌<◌, ◌≤◌, ◌⊎◌, ℕ, true, false, Option, Some, None, List, Contains, IsSomeAnd, slice_get, slice_index_or}
use Rattle.wait_list.specs.declared.{applicant.Applicant.Applicant, ask.Candidate.Candidate, targets.Targets.Targets}
use Rattle.wait_list.specs.{Next.Asked, Next.next_candidate, Target.wants_extremely_low, Wanted.IsWanted}

-- The family may be admitted: its persons are as many as the plan allows for units of so many bedrooms, and its annual
-- income is at most the limit for its size: the low limit where the contract is an early one, else the very low one.
pub record MayBeAdmitted (asked : Asked) (family : Applicant) : Type 0 where
  pub persons : IsSomeAnd (slice_get asked.plan.bounds asked.unit.bedrooms) (λ bound. (bound.least ≤ family.persons) × (family.persons ≤ bound.most))
  pub income : IsSomeAnd asked.limits (λ limits.
      (asked.plan.early ≡ true → family.annual ≤ slice_index_or limits.low (family.size - 1) 0)
      × (asked.plan.early ≡ false → family.annual ≤ slice_index_or limits.very_low (family.size - 1) 0))

-- its annual income is at most the extremely low limit for its size
abbrev pub HasExtremelyLow : Asked → Applicant → Type 0
HasExtremelyLow asked family = IsSomeAnd asked.limits (λ limits. family.annual ≤ slice_index_or limits.extremely_low (family.size - 1) 0)

-- both are of one group: for an accessible unit both need its features, or neither does
abbrev pub IsOfGroup : Asked → Applicant → Applicant → Type 0
IsOfGroup asked family other = asked.unit.accessible ≡ true → other.accessible ≡ family.accessible

-- the one has the smaller rank, or the same and applied no later
abbrev pub IsAhead : Applicant → Applicant → Type 0
IsAhead family other = (family.rank < other.rank) ⊎ ((family.rank ≡ other.rank) × (family.act ≤ other.act))

-- no mover needs features that the unit has
abbrev pub NoMoverInNeed : Asked → Type 0
NoMoverInNeed asked = asked.needing ≡ None

-- nor does an applicant who may be admitted
abbrev pub NoFamilyInNeed : Asked → List Applicant → Type 0
NoFamilyInNeed asked applicants =
    asked.unit.accessible ≡ true → (other : Applicant) → Contains applicants other → MayBeAdmitted asked other → other.accessible ≡ false

-- The family is rightly next: it is on the list and may be admitted. Where an extremely low-income family is wanted and
-- there is one in its group, it is one, and it is ahead of all of these; else it is ahead of all of its group. Nobody is of
-- a group before its own: of an accessible unit these are movers in need, families in need, other movers; of another unit
-- movers.
pub record FamilyIsNext (targets : Targets) (asked : Asked) (applicants : List Applicant) (next : Applicant) : Type 0 where
  pub listed : Contains applicants next
  pub admitted : MayBeAdmitted asked next
  pub wanted : IsWanted targets → (other : Applicant) → Contains applicants other → MayBeAdmitted asked other → IsOfGroup asked next other →
      HasExtremelyLow asked other → HasExtremelyLow asked next
  pub ahead : (other : Applicant) → Contains applicants other → MayBeAdmitted asked other → IsOfGroup asked next other →
      (IsWanted targets → HasExtremelyLow asked next → HasExtremelyLow asked other) → IsAhead next other
  pub no_mover_in_need : NoMoverInNeed asked
  pub no_family_in_need : next.accessible ≡ false → NoFamilyInNeed asked applicants
  pub no_other_mover : (asked.unit.accessible ≡ true → next.accessible ≡ false) → asked.other ≡ None

-- The household is rightly next: it is the first mover in need of features that the unit has; or the first other mover,
-- where nobody is in need of them.
abbrev pub MoverIsNext : Asked → List Applicant → ℕ → Type 0
MoverIsNext asked applicants household =
    (asked.needing ≡ Some household)
    ⊎ ((asked.other ≡ Some household) × NoMoverInNeed asked × NoFamilyInNeed asked applicants)

-- rightly nobody is next: there is no mover, and no family on the list may be admitted
pub record NobodyIsNext (asked : Asked) (applicants : List Applicant) : Type 0 where
  pub no_mover_in_need : NoMoverInNeed asked
  pub no_other_mover : asked.other ≡ None
  pub no_family : (family : Applicant) → Contains applicants family → ¬ MayBeAdmitted asked family

-- the answer is right
abbrev pub IsRightAnswer : Targets → Asked → List Applicant → Option Candidate → Type 0
IsRightAnswer targets asked applicants None = NobodyIsNext asked applicants
IsRightAnswer targets asked applicants (Some (Candidate.Applicant number)) =
    (next : Applicant) × (next.number ≡ number) × FamilyIsNext targets asked applicants next
IsRightAnswer targets asked applicants (Some (Candidate.Household household)) = MoverIsNext asked applicants household

-- whoever is next is so rightly, where the office asks for an extremely low-income family as its targets say
abbrev pub NextIsPlain : Type 0
NextIsPlain = (targets : Targets) (asked : Asked) (applicants : List Applicant) → asked.wanted ≡ wants_extremely_low targets →
    IsRightAnswer targets asked applicants (next_candidate asked applicants)
