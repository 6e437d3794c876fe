use Rattle.serde_json.specs.View.{view, members_view}
use Rattle.json_form.proofs.Floats.{put_without_float}
use Rattle.json_form.proofs.members.Members.with_value.Goals as goal

pub invariant_of-result : goal.invariant_of-result
invariant_of-result c =
    record { no_float = rw c.in_ok-put.ensures.ok (put_without_float _ (view c.into_value.result) (members_view c.args.self.members.entries) c.into_value.ensures.no_float c.args.self.no_float) }
