-- How many persons and members of the family facts that break no rule have.
use Rattle.std.proofs.Common.{◌≡◌, ℕ, ◌≤◌, cond, None, arith, true}
use Rattle.std.proofs.lemmas.{Bool.Decides.nat_tests, List.Sums.count_by-le-length, List.Sums.sum_by-le-sum_by, Grind.common_steps}
use Rattle.std.specs.Prelude.{not, count_by}
use Rattle.facts_core.specs.declared.{members.Relation.Relation, members.Member.Member, facts.Facts.Facts}
use Rattle.facts_core.specs.Rules.{is_head, is_aide, is_eligible, eligible_members, has_one_head, is_in_size, has_an_eligible_member, broken_rule}
use Rattle.income_rules.proofs.Kept.{keeps, is_short}
use Rattle.certified_figures.specs.Figures.{persons_of, size_of}

-- the head is of the family
head_counts : (relation : Relation) → cond (is_head relation) 1 0 ≤ cond (not (is_aide relation)) 1 0
head_counts relation = grind (arith, common_steps)

-- what facts that break no rule say of the numbers of their persons
pub record HasFamily (facts : Facts) : Type 0 where
  pub one : 1 ≤ size_of facts
  pub few : size_of facts ≤ 12
  pub persons : size_of facts ≤ persons_of facts
  pub few_persons : persons_of facts ≤ 16
  pub some_eligible : 1 ≤ eligible_members facts
  pub eligible : eligible_members facts ≤ size_of facts

at_least_one : (facts : Facts) → has_one_head facts ≡ true → 1 ≤ size_of facts
at_least_one facts e =
    let heads : count_by (λ (member : Member). is_head member.relation) facts.members ≡ 1 = grind (arith, nat_tests) in
    let more = sum_by-le-sum_by (λ (member : Member). cond (is_head member.relation) 1 0) (λ member. cond (not (is_aide member.relation)) 1 0) facts.members (λ member. head_counts member.relation) in
    omega (arith, heads, more)

at_most_twelve : (facts : Facts) → is_in_size facts ≡ true → size_of facts ≤ 12
at_most_twelve facts e = grind (arith, common_steps, e)

-- who is eligible is of the family
eligible_counts : (member : Member) → cond (is_eligible member) 1 0 ≤ cond (not (is_aide member.relation)) 1 0
eligible_counts member = grind (arith, common_steps)

some_is_eligible : (facts : Facts) → has_an_eligible_member facts ≡ true → 1 ≤ eligible_members facts
some_is_eligible facts e = grind (arith, nat_tests, e)

pub has_family : (facts : Facts) (day : ℕ) → broken_rule facts day ≡ None → HasFamily facts
has_family facts day e =
    let kept = keeps facts day e in
    record {
      one = at_least_one facts kept.head;
      few = at_most_twelve facts kept.size;
      persons = count_by-le-length (λ (member : Member). not (is_aide member.relation)) facts.members;
      few_persons = (is_short facts kept.size).members;
      some_eligible = some_is_eligible facts kept.eligible;
      eligible = sum_by-le-sum_by (λ (member : Member). cond (is_eligible member) 1 0) (λ member. cond (not (is_aide member.relation)) 1 0) facts.members eligible_counts;
    }
