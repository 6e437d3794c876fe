-- Lines that stand by closing, month and household stand in turn.
use Rattle.std.proofs.Common.{inl, inr, ℕ, ◌≤◌, arith, List, get_or, All}
use Rattle.record_history.specs.Limits.{most_acts}
use Rattle.voucher_core.specs.declared.line.Line.{Line}
use Rattle.book_replay.specs.Below.office_laws.AtHand.{StandsBefore, StandInOrder}
use Rattle.office_answers.specs.InTurn.{ComesNoLater, StandInTurn}

in_turn : (line next : Line) → line.household ≤ most_acts → StandsBefore line next → ComesNoLater line next
in_turn line next few (inl earlier) = inl earlier
in_turn line next few (inr (same, inl earlier)) = inr (same, omega (arith, few, earlier))
in_turn line next few (inr (same, inr (alike, order))) = inr (same, omega (arith, alike, order))

pub stand_in_turn : (lines : List Line) (count : ℕ) → count ≤ most_acts → All (λ line. line.household ≤ count) lines → StandInOrder lines → StandInTurn lines
stand_in_turn lines count few named in_order i j d before within =
    in_turn (get_or lines i d) (get_or lines j d) (omega (arith, few, named i d (omega (arith, before, within)))) (in_order i j d before within)
