use Rattle.tenancy_rules.proofs.Words.{◌≡◌, arith, nat_tests, All-contains_itself}
use Rattle.std.specs.Prelude.{IsOk, insert}
use Rattle.std.proofs.lemmas.List.Sorted.{IsNonDecreasingBy-insert}
use Rattle.tenancy_rules.proofs.Told.{kept-insert}
use Rattle.tenancy_rules.proofs.uses.tell.Goals as goal

pub returns-then-is_told-clause-kept : goal.returns-then-is_told-clause-kept
returns-then-is_told-clause-kept c = All-contains_itself c.args.uses.now.items

pub returns-clause-in_order : goal.returns-clause-in_order
returns-clause-in_order c =
    let done : IsOk c.insert.result = c.insert.ensures.succeeds c.requires.room in
    let placed : c.insert.new.self.items ≡ insert c.args.uses.now.items c.first_above-at.result c.args.used = rw done at c.insert.ensures.items in
    let point = rw c.deref-2.ensures.value at c.first_above-at.ensures.point in
    rw placed (IsNonDecreasingBy-insert (λ used. used.unit) c.args.uses.now.items c.first_above-at.result c.args.used c.requires.in_order
    (rw c.deref-2.ensures.value at c.first_above-at.ensures.bound)
    (λ k d low. grind (arith, nat_tests, point.0 k d)) (λ k d from within. grind (arith, nat_tests, point.1 k d)))

pub returns-clause-kept : goal.returns-clause-kept
returns-clause-kept c =
    let done : IsOk c.insert.result = c.insert.ensures.succeeds c.requires.room in
    let placed : c.insert.new.self.items ≡ insert c.args.uses.now.items c.first_above-at.result c.args.used = rw done at c.insert.ensures.items in
    rw placed (kept-insert c.args.uses.now.items c.first_above-at.result c.args.used)
