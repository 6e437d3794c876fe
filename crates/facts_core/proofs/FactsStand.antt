-- The values that are written of facts are plain, and are read again as these facts.
use Rattle.std.proofs.Common.{◌≤◌, Bool, true, false, codes, refl}
use Rattle.json_form.specs.Form.{one_of, is_object_at, field, optional_field, only}
use Rattle.json_form.proofs.Stands.{Stands, word, number, day, flag, array}
use Rattle.serde_json.specs.Data.{string}
use Rattle.facts_core.specs.declared.{members.Relation.Relation, members.Member.Member, incomes.IncomeKind.IncomeKind, incomes.Income.Income, property.Asset.Asset, property.Disposal.Disposal, facts.Facts.Facts}
use Rattle.facts_core.specs.Facts.{relations, relation_word, member_at, member_data, kinds, kind_word, income_at, income_data, asset_at, asset_data, disposal_at, disposal_data, facts_fields_at, facts_at, facts_data}
use Rattle.facts_core.specs.Facts.{IncomeFits, AssetFits, DisposalFits, FactsFit}

relation_stands : (r : Relation) → Stands 0 (one_of relations) (string (relation_word r)) r
unfolding one_of
relation_stands Relation.Head = record { again = refl; plain = word (codes "Head") refl }
relation_stands Relation.Spouse = record { again = refl; plain = word (codes "Spouse") refl }
relation_stands Relation.Cohead = record { again = refl; plain = word (codes "Cohead") refl }
relation_stands Relation.Other = record { again = refl; plain = word (codes "Other") refl }
relation_stands Relation.Aide = record { again = refl; plain = word (codes "Aide") refl }

kind_stands : (k : IncomeKind) → Stands 0 (one_of kinds) (string (kind_word k)) k
unfolding one_of
kind_stands IncomeKind.Wages = record { again = refl; plain = word (codes "Wages") refl }
kind_stands IncomeKind.Business = record { again = refl; plain = word (codes "Business") refl }
kind_stands IncomeKind.Benefits = record { again = refl; plain = word (codes "Benefits") refl }
kind_stands IncomeKind.Welfare = record { again = refl; plain = word (codes "Welfare") refl }
kind_stands IncomeKind.Adoption = record { again = refl; plain = word (codes "Adoption") refl }
kind_stands IncomeKind.Other = record { again = refl; plain = word (codes "Other") refl }

-- whether the person is eligible is written or not
person_stands : (person : Member) (eligible : Bool) → person.born ≤ 116877 →
    Stands 1 member_at (member_data (record person { eligible = eligible })) (record person { eligible = eligible })
unfolding member_at member_data is_object_at field optional_field only
person_stands person true fits =
    let relation = relation_stands person.relation in
    let born = day 0 person.born fits in
    let disabled = flag 0 person.disabled in
    let student = flag 0 person.student in
    let helped = flag 0 person.helped in
    let cared = flag 0 person.cared in
    record {
      again = simp (relation.again, born.again, disabled.again, student.again, helped.again, cared.again) refl;
      plain = (refl, refl, (born.plain, (tt, (tt, (tt, (relation.plain, (tt, tt)))))));
    }
person_stands person false fits =
    let relation = relation_stands person.relation in
    let born = day 0 person.born fits in
    let disabled = flag 0 person.disabled in
    let student = flag 0 person.student in
    let helped = flag 0 person.helped in
    let cared = flag 0 person.cared in
    let eligible = flag 0 false in
    record {
      again = simp (relation.again, born.again, disabled.again, student.again, helped.again, cared.again, eligible.again) refl;
      plain = (refl, refl, (born.plain, (tt, (tt, (tt, (tt, (relation.plain, (tt, tt))))))));
    }

member_stands : (person : Member) → person.born ≤ 116877 → Stands 1 member_at (member_data person) person
member_stands person fits = person_stands person person.eligible fits

income_stands : (income : Income) → IncomeFits income → Stands 1 income_at (income_data income) income
unfolding income_at income_data is_object_at field only
income_stands income fits =
    let member = number 0 income.member fits.member in
    let kind = kind_stands income.kind in
    let annual = number 0 income.annual fits.annual in
    record { again = simp (member.again, kind.again, annual.again) refl; plain = (refl, refl, (annual.plain, (kind.plain, (member.plain, tt)))) }

asset_stands : (asset : Asset) → AssetFits asset → Stands 1 asset_at (asset_data asset) asset
unfolding asset_at asset_data is_object_at field only
asset_stands asset fits =
    let value = number 0 asset.value fits.value in
    let income = number 0 asset.income fits.income in
    record { again = simp (value.again, income.again) refl; plain = (refl, refl, (income.plain, (value.plain, tt))) }

disposal_stands : (disposal : Disposal) → DisposalFits disposal → Stands 1 disposal_at (disposal_data disposal) disposal
unfolding disposal_at disposal_data is_object_at field only
disposal_stands disposal fits =
    let day = day 0 disposal.day fits.day in
    let value = number 0 disposal.value fits.value in
    let received = number 0 disposal.received fits.received in
    record { again = simp (day.again, value.again, received.again) refl; plain = (refl, refl, (day.plain, (received.plain, (value.plain, tt)))) }

pub facts_stand : (facts : Facts) → FactsFit facts → Stands 3 facts_at (facts_data facts) facts
unfolding facts_fields_at facts_at facts_data is_object_at field only
facts_stand facts fits =
    let members = array 1 member_at member_data (λ (person : Member). person.born ≤ 116877) member_stands facts.members fits.members in
    let incomes = array 1 income_at income_data IncomeFits income_stands facts.incomes fits.incomes in
    let assets = array 1 asset_at asset_data AssetFits asset_stands facts.assets fits.assets in
    let disposals = array 1 disposal_at disposal_data DisposalFits disposal_stands facts.disposals fits.disposals in
    let care_work = number 2 facts.care_work fits.care_work in
    let care_school = number 2 facts.care_school fits.care_school in
    let disability = number 2 facts.disability fits.disability in
    let medical = number 2 facts.medical fits.medical in
    let welfare = number 2 facts.welfare fits.welfare in
    let exempt = flag 2 facts.exempt in
    record {
      again = simp (members.again, incomes.again, assets.again, disposals.again, care_work.again, care_school.again, disability.again, medical.again, welfare.again, exempt.again) refl;
      plain = (refl, refl, (assets.plain, (care_school.plain, (care_work.plain, (disability.plain, (disposals.plain, (tt, (incomes.plain, (medical.plain, (members.plain, (welfare.plain, tt)))))))))));
    }
