use Rattle.record_history.proofs.Words.{◌≡◌, ◌-◌, length, rules}
use Rattle.std.specs.Prelude.{slice_get, Some}
use Rattle.record_history.proofs.CorrectedLemmas.{newest_is_last}
use Rattle.record_history.proofs.force.newest_act_among.Goals as goal

pub returns-in-Some : goal.returns-in-Some
returns-in-Some c =
    let records = c.args.own.now.records.items in
    let last : slice_get records (length records - 1) ≡ Some c.in-Some.held.now = search rules in
    newest_is_last records c.in-Some.held.now c.requires.kept.acts last
