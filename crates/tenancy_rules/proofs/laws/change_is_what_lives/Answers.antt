use Rattle.tenancy_rules.proofs.Words.{arith, ℕ, ◌<◌, List, All, Record, AreNumbered, records_of}
use Rattle.std.proofs.Common.{rules}
use Rattle.record_history.specs.Held.{NameEarlier}
use Rattle.tenancy_rules.proofs.{LiveLaws.change_is_what_lives, Numbers.none_above}
use Rattle.tenancy_rules.proofs.laws.change_is_what_lives.Goals as goal

-- what corrects an earlier record corrects none from the next number on
below : (records : List Record) (number : ℕ) → All (λ r. r.number < number) records → NameEarlier records → All (λ r. r.corrects < number) records
below records number numbers earlier = λ k d within. omega (arith, numbers k d within, earlier k d within)

pub returns : goal.returns
returns c =
    let own : List Record = records_of c.args.history.now.households c.args.held.now.household in
    let numbered : AreNumbered own = search rules in
    let earlier : NameEarlier own = search rules in
    change_is_what_lives own c.args.held.now (below own c.args.held.now.number (rw c.requires.number (none_above own numbered)) earlier) c.requires.earlier
