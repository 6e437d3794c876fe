use Rattle.std.proofs.Common.{◌∙◌, ap, nat_eq, rules}
use Rattle.std.specs.Set.{distinct_count}
use Rattle.std.specs.Cmp.{nat_cmp_total}
use Rattle.std.proofs.lemmas.Map.Views.{btree_set_len-from_list}
use Rattle.forms_text.proofs.Counted.{same_count}
use Rattle.forms_text.proofs.households.count_households.Goals as goal

pub returns : goal.returns
returns c =
    c.len.ensures.len ∙ btree_set_len-from_list nat_cmp_total c.deref.result.now c.in_ok-households.households c.in_ok-households.ensures
    ∙ same_count c.deref.result.now ∙ ap (distinct_count nat_eq) (c.deref.ensures.value ∙ c.in_ok-named.ensures) ∙ search rules
