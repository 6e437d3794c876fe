-- When a rule of the facts stands against an act, in plain facts (docs/REFUSALS.md, 8; docs/RULES.md, "Facts that are
-- refused").
use Rattle.std.specs.Prelude.{ℕ, ◌≡◌, ◌≢◌, ◌↔◌, ◌≤◌, ◌<◌, ◌⊎◌, Bool, true, false, Some, length, count_by, Contains, slice_get}
use Rattle.facts_core.specs.declared.{members.Member.Member, members.Relation.Relation, incomes.Income.Income, property.Asset.Asset, property.Disposal.Disposal, facts.Facts.Facts}
use Rattle.office_step.specs.{declared.refusal.Refusal.Refusal, Matter.Matter, Matter.from_facts, Against.facts_rule}

-- the member at that place is the head
abbrev pub IsHeadAt : Facts → ℕ → Type 0
IsHeadAt facts place = (member : Member) × (slice_get facts.members place ≡ Some member) × (member.relation ≡ Relation.Head)

-- the member at that place is a spouse or a co-head
abbrev pub IsPartnerAt : Facts → ℕ → Type 0
IsPartnerAt facts place =
    (member : Member) × (slice_get facts.members place ≡ Some member) × ((member.relation ≡ Relation.Spouse) ⊎ (member.relation ≡ Relation.Cohead))

-- no amount is above 9,999,999
abbrev pub IsAmount : ℕ → Type 0
IsAmount amount = amount ≤ 9999999

pub record HaveAmounts (facts : Facts) : Type 0 where
  pub incomes : (income : Income) → Contains facts.incomes income → IsAmount income.annual
  pub values : (asset : Asset) → Contains facts.assets asset → IsAmount asset.value
  pub yields : (asset : Asset) → Contains facts.assets asset → IsAmount asset.income
  pub worths : (disposal : Disposal) → Contains facts.disposals disposal → IsAmount disposal.value
  pub proceeds : (disposal : Disposal) → Contains facts.disposals disposal → IsAmount disposal.received
  pub care_work : IsAmount facts.care_work
  pub care_school : IsAmount facts.care_school
  pub disability : IsAmount facts.disability
  pub medical : IsAmount facts.medical
  pub welfare : IsAmount facts.welfare

-- all members but live-in aides
abbrev pub is_family : Relation → Bool
is_family Relation.Aide = false
is_family _ = true

-- at most 12 members other than live-in aides, 16 members, 40 incomes, 40 assets and 40 disposals
pub record AreFew (facts : Facts) : Type 0 where
  pub family : count_by (λ member. is_family member.relation) facts.members ≤ 12
  pub members : length facts.members ≤ 16
  pub incomes : length facts.incomes ≤ 40
  pub assets : length facts.assets ≤ 40
  pub disposals : length facts.disposals ≤ 40

-- the eight rules
pub data Rule : Type 0 where
  head : Rule
  partners : Rule
  earners : Rule
  amounts : Rule
  disposals : Rule
  sizes : Rule
  births : Rule
  eligible : Rule

abbrev pub number_of : Rule → ℕ
number_of head = 1
number_of partners = 2
number_of earners = 3
number_of amounts = 4
number_of disposals = 5
number_of sizes = 6
number_of births = 7
number_of eligible = 8

-- the facts keep it on the day
abbrev pub Keep : Facts → ℕ → Rule → Type 0
Keep facts day head = (place : ℕ) × IsHeadAt facts place × ((other : ℕ) → IsHeadAt facts other → other ≡ place)
Keep facts day partners = (place other : ℕ) → IsPartnerAt facts place → IsPartnerAt facts other → other ≡ place
Keep facts day earners = (income : Income) → Contains facts.incomes income → income.member < length facts.members
Keep facts day amounts = HaveAmounts facts
Keep facts day disposals = (disposal : Disposal) → Contains facts.disposals disposal → disposal.received ≤ disposal.value
Keep facts day sizes = AreFew facts
Keep facts day births = (member : Member) → Contains facts.members member → member.born ≤ day
Keep facts day eligible = (member : Member) × Contains facts.members member × (member.relation ≢ Relation.Aide) × (member.eligible ≡ true)

-- 8: the first rule that the facts break on the first day of the record
pub record BreaksRule (about : Matter) (refusal : Refusal) : Type 0 where
  pub facts : Facts
  pub from : ℕ
  pub rule : Rule
  pub told : refusal ≡ Refusal.FactsRule (number_of rule)
  pub rests : about.basis ≡ from_facts facts
  pub begins : about.from ≡ Some from
  pub broken : ¬ Keep facts from rule
  pub kept_before : (other : Rule) → number_of other < number_of rule → Keep facts from other

abbrev pub FactsRuleIsPlain : Type 0
FactsRuleIsPlain = (about : Matter) (refusal : Refusal) → (facts_rule about ≡ Some refusal) ↔ BreaksRule about refusal
