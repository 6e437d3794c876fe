use Rattle.record_history.proofs.Words.{◌∙◌}
use Rattle.record_history.proofs.Following.{last_in_force}
use Rattle.record_history.proofs.force.in_force_among.Goals as goal

pub last_begun-requires : goal.last_begun-requires
last_begun-requires c = rw c.deref.ensures.value c.requires.counting.in_order

pub returns : goal.returns
returns c =
    rw c.deref.ensures.value at c.last_begun.ensures
    ∙ last_in_force c.args.own.now.records.items c.args.own.now.live.items c.args.own.now.corrected.items c.requires c.args.day
