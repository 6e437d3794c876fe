use Rattle.std.specs.Prelude.{true, unwrap_or}
use Rattle.serde_json.specs.View.{view}
use Rattle.json_form.specs.{Form.closed, Gives.Gives}
use Rattle.facts_core.specs.declared.members.Member.{Member}
use Rattle.facts_core.specs.Facts.{member_at, member_names}
use Rattle.facts_core.proofs.members.MemberFormed.of_value.Goals as goal

pub returns : goal.returns
unfolding member_at
returns c =
    let member : Member = record {
      relation = c.in_ok-relation.relation;
      born = c.in_ok-born.born;
      disabled = c.in_ok-disabled.disabled;
      student = c.in_ok-student.student;
      helped = c.in_ok-helped.helped;
      cared = c.in_ok-cared.cared;
      eligible = unwrap_or c.in_ok-eligible.eligible true;
    } in
    let closed : Gives (λ member. member) c.closed.result (closed member_names member (view c.args.value.now)) = rw (← c.unwrap_or.ensures) c.closed.ensures.exact in
    simp (c.in_ok-object.ensures, c.in_ok-relation.ensures, c.in_ok-born.ensures, c.in_ok-disabled.ensures, c.in_ok-student.ensures, c.in_ok-helped.ensures, c.in_ok-cared.ensures, c.in_ok-eligible.ensures)
    closed
