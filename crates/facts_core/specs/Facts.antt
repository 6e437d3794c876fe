-- How the facts of a household are written in JSON: the form of each part, and the members that it is written with, in
-- the byte order of their names. Only whether a member is eligible may be missing, and then it is so.
use Rattle.std.specs.Prelude.{ℕ, ◌<◌, ◌≤◌, ◌^◌, Bool, true, false, List, [], ◌∷◌, Result, Ok, codes, unwrap_or}
use Rattle.std.specs.List.{All}
use Rattle.serde_json.specs.Data.{Data, boolean, string, object, Members, member, no_members}
use Rattle.json_form.specs.Form.{◌>>=◌, bool_at, u32_at, day_at, one_of, is_object_at, field, optional_field, closed, closed_by, array_at}
use Rattle.json_form.specs.Written.{number_data, day_data, array_data}
use Rattle.facts_core.specs.declared.{members.Relation.Relation, members.Member.Member, incomes.IncomeKind.IncomeKind, incomes.Income.Income, property.Asset.Asset, property.Disposal.Disposal, facts.Facts.Facts}
use Rattle.days_core.specs.Calendar.{last_day}

-- ---- members

abbrev pub relations : List (List ℕ × Relation)
relations =
    (codes "Head", Relation.Head) ∷ (codes "Spouse", Relation.Spouse) ∷ (codes "Cohead", Relation.Cohead)
    ∷ (codes "Other", Relation.Other) ∷ (codes "Aide", Relation.Aide) ∷ []

-- the word for a relation
abbrev pub relation_word : Relation → List ℕ
relation_word Relation.Head = codes "Head"
relation_word Relation.Spouse = codes "Spouse"
relation_word Relation.Cohead = codes "Cohead"
relation_word Relation.Other = codes "Other"
relation_word Relation.Aide = codes "Aide"

-- the names of a member's fields
abbrev pub member_names : List (List ℕ)
member_names =
    codes "born" ∷ codes "cared" ∷ codes "disabled" ∷ codes "eligible" ∷ codes "helped" ∷ codes "relation"
    ∷ codes "student" ∷ []

-- whether a person is eligible is written only if it isn't so
abbrev pub with_eligible : Bool → Members → Members
with_eligible true members = members
with_eligible false members = member (codes "eligible") (boolean false) members

abbrev pub member_members : Member → Members
member_members person =
    member (codes "born") (day_data person.born) (
    member (codes "cared") (boolean person.cared) (
    member (codes "disabled") (boolean person.disabled) (
    with_eligible person.eligible (
    member (codes "helped") (boolean person.helped) (
    member (codes "relation") (string (relation_word person.relation)) (
    member (codes "student") (boolean person.student) no_members))))))

unfoldable pub member_data : Member → Data
member_data person = object (member_members person)

unfoldable pub member_at : Data → Result Member (List ℕ)
member_at d = do
  _ ← is_object_at d
  relation ← field (codes "relation") (one_of relations) d
  born ← field (codes "born") day_at d
  disabled ← field (codes "disabled") bool_at d
  student ← field (codes "student") bool_at d
  helped ← field (codes "helped") bool_at d
  cared ← field (codes "cared") bool_at d
  eligible ← optional_field (codes "eligible") bool_at d
  closed member_names (record { relation = relation; born = born; disabled = disabled; student = student; helped = helped; cared = cared; eligible = unwrap_or eligible true }) d

-- ---- incomes

abbrev pub kinds : List (List ℕ × IncomeKind)
kinds =
    (codes "Wages", IncomeKind.Wages) ∷ (codes "Business", IncomeKind.Business) ∷ (codes "Benefits", IncomeKind.Benefits)
    ∷ (codes "Welfare", IncomeKind.Welfare) ∷ (codes "Adoption", IncomeKind.Adoption) ∷ (codes "Other", IncomeKind.Other) ∷ []

-- the word for a kind of income
abbrev pub kind_word : IncomeKind → List ℕ
kind_word IncomeKind.Wages = codes "Wages"
kind_word IncomeKind.Business = codes "Business"
kind_word IncomeKind.Benefits = codes "Benefits"
kind_word IncomeKind.Welfare = codes "Welfare"
kind_word IncomeKind.Adoption = codes "Adoption"
kind_word IncomeKind.Other = codes "Other"

abbrev pub income_members : Income → Members
income_members income =
    member (codes "annual") (number_data income.annual) (
    member (codes "kind") (string (kind_word income.kind)) (
    member (codes "member") (number_data income.member) no_members))

unfoldable pub income_data : Income → Data
income_data income = object (income_members income)

unfoldable pub income_at : Data → Result Income (List ℕ)
income_at d = do
  _ ← is_object_at d
  whose ← field (codes "member") u32_at d
  kind ← field (codes "kind") (one_of kinds) d
  annual ← field (codes "annual") u32_at d
  closed_by income_members (record { member = whose; kind = kind; annual = annual }) d

-- ---- property

abbrev pub asset_members : Asset → Members
asset_members asset =
    member (codes "income") (number_data asset.income) (
    member (codes "value") (number_data asset.value) no_members)

unfoldable pub asset_data : Asset → Data
asset_data asset = object (asset_members asset)

unfoldable pub asset_at : Data → Result Asset (List ℕ)
asset_at d = do
  _ ← is_object_at d
  value ← field (codes "value") u32_at d
  income ← field (codes "income") u32_at d
  closed_by asset_members (record { value = value; income = income }) d

abbrev pub disposal_members : Disposal → Members
disposal_members disposal =
    member (codes "day") (day_data disposal.day) (
    member (codes "received") (number_data disposal.received) (
    member (codes "value") (number_data disposal.value) no_members))

unfoldable pub disposal_data : Disposal → Data
disposal_data disposal = object (disposal_members disposal)

unfoldable pub disposal_at : Data → Result Disposal (List ℕ)
disposal_at d = do
  _ ← is_object_at d
  day ← field (codes "day") day_at d
  value ← field (codes "value") u32_at d
  received ← field (codes "received") u32_at d
  closed_by disposal_members (record { day = day; value = value; received = received }) d

-- ---- the household

abbrev pub facts_members : Facts → Members
facts_members facts =
    member (codes "assets") (array_data asset_data facts.assets) (
    member (codes "care_school") (number_data facts.care_school) (
    member (codes "care_work") (number_data facts.care_work) (
    member (codes "disability") (number_data facts.disability) (
    member (codes "disposals") (array_data disposal_data facts.disposals) (
    member (codes "exempt") (boolean facts.exempt) (
    member (codes "incomes") (array_data income_data facts.incomes) (
    member (codes "medical") (number_data facts.medical) (
    member (codes "members") (array_data member_data facts.members) (
    member (codes "welfare") (number_data facts.welfare) no_members)))))))))

unfoldable pub facts_data : Facts → Data
facts_data facts = object (facts_members facts)

-- their fields
unfoldable pub facts_fields_at : Data → Result Facts (List ℕ)
facts_fields_at d = do
  members ← field (codes "members") (array_at member_at) d
  incomes ← field (codes "incomes") (array_at income_at) d
  assets ← field (codes "assets") (array_at asset_at) d
  disposals ← field (codes "disposals") (array_at disposal_at) d
  care_work ← field (codes "care_work") u32_at d
  care_school ← field (codes "care_school") u32_at d
  disability ← field (codes "disability") u32_at d
  medical ← field (codes "medical") u32_at d
  welfare ← field (codes "welfare") u32_at d
  exempt ← field (codes "exempt") bool_at d
  Ok (record { members = members; incomes = incomes; assets = assets; disposals = disposals; care_work = care_work; care_school = care_school; disability = disability; medical = medical; welfare = welfare; exempt = exempt })

unfoldable pub facts_at : Data → Result Facts (List ℕ)
facts_at d = do
  _ ← is_object_at d
  facts ← facts_fields_at d
  closed_by facts_members facts d

-- ---- facts that a program can hold: each number fits 32 bits, and each day is of the years 1880 to 2199

pub record IncomeFits (income : Income) : Type 0 where
  pub member : income.member < 2 ^ 32
  pub annual : income.annual < 2 ^ 32

pub record AssetFits (asset : Asset) : Type 0 where
  pub value : asset.value < 2 ^ 32
  pub income : asset.income < 2 ^ 32

pub record DisposalFits (disposal : Disposal) : Type 0 where
  pub day : disposal.day ≤ last_day
  pub value : disposal.value < 2 ^ 32
  pub received : disposal.received < 2 ^ 32

pub record FactsFit (facts : Facts) : Type 0 where
  pub members : All (λ person. person.born ≤ last_day) facts.members
  pub incomes : All IncomeFits facts.incomes
  pub assets : All AssetFits facts.assets
  pub disposals : All DisposalFits facts.disposals
  pub care_work : facts.care_work < 2 ^ 32
  pub care_school : facts.care_school < 2 ^ 32
  pub disability : facts.disability < 2 ^ 32
  pub medical : facts.medical < 2 ^ 32
  pub welfare : facts.welfare < 2 ^ 32
