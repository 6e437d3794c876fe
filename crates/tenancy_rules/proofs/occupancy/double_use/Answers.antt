use Rattle.tenancy_rules.proofs.Words.{◌∙◌, sym, ap, ◌+◌, Option, is_rival_on, sooner_rivalry, DoubleUse}
use Rattle.tenancy_rules.proofs.Rivals.{first_rivalry-more}
use Rattle.tenancy_rules.proofs.occupancy.double_use.Goals as goal

pub loop-place-preserved : goal.loop-place-preserved
loop-place-preserved c =
    let is_rival = is_rival_on c.args.history.now.households c.args.household c.args.change.now in
    c.sooner_rivalry-first.ensures
    ∙ ap (λ (first : Option DoubleUse). sooner_rivalry is_rival 80354 first (c.loop-place.place + 1)) c.loop-place.invariant
    ∙ sym (first_rivalry-more is_rival c.loop-place.place 80354)
