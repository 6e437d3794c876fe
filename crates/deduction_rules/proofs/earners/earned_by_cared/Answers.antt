use Rattle.std.proofs.Common.{◌≡◌, ℕ, ◌+◌, length, ap, sym, ◌∙◌, arith}
use Rattle.std.specs.{Prelude.sum_by, List.range_with_len}
use Rattle.facts_core.specs.declared.members.Member.{Member}
use Rattle.deduction_rules.proofs.Bounds.{share_of, shares-le, earned_by-shares}
use Rattle.deduction_rules.proofs.earners.earned_by_cared.Goals as goal
use Rattle.list_laws.proofs.Ranges.{sum_by-range_more}

pub overflow_add-total : goal.overflow_add-total
overflow_add-total c =
    let more = sum_by-range_more (share_of (λ (member : Member). member.cared) c.args.facts.now c.args.day) 0 c.loop-number.number c.loop-number.number (omega arith) in
    let within = shares-le (λ (member : Member). member.cared) c.args.facts.now c.args.day (c.loop-number.number + 1) c.requires in
    omega (arith, more, within)

pub loop-number-preserved : goal.loop-number-preserved
loop-number-preserved c =
    let more = sum_by-range_more (share_of (λ (member : Member). member.cared) c.args.facts.now c.args.day) 0 c.loop-number.number c.loop-number.number (omega arith) in
    omega (arith, more)

pub returns : goal.returns
returns c =
    let ends : c.loop-number.number ≡ length c.args.facts.now.members = omega (arith, ap length c.as_slice-number-end.ensures) in
    let shares : ℕ → ℕ = share_of (λ (member : Member). member.cared) c.args.facts.now c.args.day in
    c.loop-number.invariant ∙ ap (λ n. sum_by shares (range_with_len 0 n)) ends ∙ sym (earned_by-shares (λ (member : Member). member.cared) c.args.facts.now c.args.day)
