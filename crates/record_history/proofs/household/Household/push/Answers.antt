use Rattle.record_history.proofs.Words.{◌≤◌, ◌+◌, length, rules}
use Rattle.record_history.proofs.Following.{own_live, numbered_live, older_live, indexed_push}
use Rattle.record_history.proofs.CorrectedLemmas.{corrected_push}
use Rattle.record_history.proofs.household.Household.push.Goals as goal

pub follow-requires-clause-own : goal.follow-requires-clause-own
follow-requires-clause-own c =
    own_live c.args.self.now.records.items c.args.self.now.live.items c.args.self.now.corrected.items c.requires.indexed

pub follow-requires-clause-numbered : goal.follow-requires-clause-numbered
follow-requires-clause-numbered c = numbered_live c.args.self.now.records.items c.args.self.now.live.items c.args.self.now.corrected.items c.requires.indexed

pub follow-requires-clause-newest : goal.follow-requires-clause-newest
follow-requires-clause-newest c =
    older_live c.args.self.now.records.items c.args.self.now.live.items c.args.self.now.corrected.items c.requires.indexed c.args.held c.requires.follows.number

pub returns-clause-indexed : goal.returns-clause-indexed
returns-clause-indexed c =
    let few : length c.follow.new.live.items ≤ length c.args.self.now.live.items + 1 = search rules in
    rw c.push_reserved.ensures.items
    (indexed_push c.args.self.now.records.items c.args.self.now.live.items c.args.self.now.corrected.items c.requires.indexed c.args.held
    c.follow.new.live.items c.mark_and_push.new.corrected.items c.requires.follows c.follow.ensures.live few
    (rw c.mark_and_push.ensures.items
    (corrected_push c.args.self.now.records.items c.args.self.now.corrected.items c.args.held c.requires.indexed.marked c.requires.indexed.kept c.requires.follows)))
