use Rattle.wait_list.proofs.Words.{◌≡◌, true, false, rules, asked_by}
use Rattle.std.specs.Prelude.{is_some}
use Rattle.wait_list.proofs.Groups.{who_needs, another}
use Rattle.wait_list.proofs.next.next_among.Goals as goal

pub returns-then-is_some : goal.returns-then-is_some
returns-then-is_some c =
    let there : is_some c.mover_or_applicant-needing.result ≡ true = search rules in
    who_needs (asked_by c.args.ask.now) c.args.ranked.now c.mover_or_applicant-needing.result c.mover_or_applicant-needing.ensures there

pub returns-else-is_some : goal.returns-else-is_some
returns-else-is_some c =
    let none : is_some c.mover_or_applicant-needing.result ≡ false = search rules in
    another (asked_by c.args.ask.now) c.args.ranked.now c.mover_or_applicant-needing.result c.mover_or_applicant-needing.ensures none
    c.mover_or_applicant.result c.mover_or_applicant.ensures
