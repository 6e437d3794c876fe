-- The shares of days one after another add up.
use Rattle.std.proofs.Common.{◌≡◌, ℕ, zero, suc, ◌+◌, ◌-◌, ◌*◌, ◌/◌, ◌<◌, ◌≤◌, ap, sym, subst, ◌∙◌, arith, mul-le-mul_left, mul-le-mul_right, mul_left_comm}
use Rattle.std.specs.{Prelude.sum_by, List.range_with_len}
use Rattle.std.proofs.lemmas.{Nat.div-mul-add, List.Sums.sum_by-cons}
use lib.Ieee.Nearest.{div_mono}
use Rattle.days_core.specs.Rounding.{round_half_up}
use Rattle.share_rules.specs.{Shares.share_to, Shares.day_share, Shares.run_share, Law.IsNearest, Law.SharesTotalTheirPart, Law.NoShareIsAboveTheAmount}

-- a part that isn't smaller, of the same whole, isn't rounded to less
less_of_less : (a b days : ℕ) → 0 < days → a ≤ b → (2 * a + days) / (2 * days) ≤ (2 * b + days) / (2 * days)
less_of_less a b days some order =
    let whole : 0 < 2 * days = omega arith in
    let part : 2 * a + days ≤ 2 * b + days = omega arith in
    div_mono (2 * a + days) (2 * days) (2 * b + days) (2 * days) whole whole (mul-le-mul_right (2 * days) part)

-- later days leave no less
pub grows : (amount first last days : ℕ) → 0 < days → first ≤ last → share_to amount first days ≤ share_to amount last days
grows amount first last days some order = less_of_less (amount * first) (amount * last) days some (mul-le-mul_left amount order)

-- all days take all
pub ends : (amount days : ℕ) → 0 < days → share_to amount days days ≡ amount
ends amount days some =
    let half : days < 2 * days = omega arith in
    ap (λ (n : ℕ). (n + days) / (2 * days)) (mul_left_comm 2 amount days) ∙ div-mul-add amount (2 * days) days half

nothing_more : (a b : ℕ) → a ≡ b → a + 0 ≡ b
nothing_more a b e = omega arith

one_more : (a b rest all end : ℕ) → a ≤ b → all ≡ (b - a) + rest → b + rest ≡ end → a + all ≡ end
one_more a b rest all end grown split sum = omega arith

-- steps of what grows add up
steps : (f : ℕ → ℕ) (before count : ℕ) → ((day : ℕ) → f day ≤ f (day + 1)) →
    f before + sum_by (λ day. f day - f (day - 1)) (range_with_len (before + 1) count) ≡ f (before + count)
steps f before zero more = nothing_more (f before) (f (before + zero)) (let none : before ≡ before + zero = omega arith in ap f none)
steps f before (suc count) more =
    let here : before + 1 - 1 ≡ before = omega arith in
    let end : before + 1 + count ≡ before + suc count = omega arith in
    one_more (f before) (f (before + 1)) (sum_by (λ day. f day - f (day - 1)) (range_with_len (before + 1 + 1) count))
    (sum_by (λ day. f day - f (day - 1)) (range_with_len (before + 1) (suc count))) (f (before + suc count)) (more before)
    (sum_by-cons (λ (day : ℕ). f day - f (day - 1)) (before + 1) (range_with_len (before + 1 + 1) count)
    ∙ ap (λ (day : ℕ). (f (before + 1) - f day) + sum_by (λ day. f day - f (day - 1)) (range_with_len (before + 1 + 1) count)) here)
    (steps f (before + 1) count more ∙ ap f end)

what_is_left : (a b c : ℕ) → a + b ≡ c → c - a ≡ b
what_is_left a b c e = omega arith

-- a run takes what the days up to its last take, less what those before its first take
pub run_is : (amount first last days : ℕ) → 0 < days → 1 ≤ first → first ≤ last →
    share_to amount last days - share_to amount (first - 1) days ≡ run_share amount first last days
run_is amount first last days some low order =
    let begin : first - 1 + 1 ≡ first = omega arith in
    let end : first - 1 + (last + 1 - first) ≡ last = omega arith in
    what_is_left (share_to amount (first - 1) days) (run_share amount first last days) (share_to amount last days)
    (ap (λ (from : ℕ). share_to amount (first - 1) days + sum_by (λ day. day_share amount day days) (range_with_len from (last + 1 - first))) (sym begin)
    ∙ steps (λ (day : ℕ). share_to amount day days) (first - 1) (last + 1 - first)
    (λ day. grows amount day (day + 1) days some (let next : day ≤ day + 1 = omega arith in next))
    ∙ ap (λ (day : ℕ). share_to amount day days) end)

-- the days up to one take no more than the amount
pub at_most : (amount last days : ℕ) → 0 < days → last ≤ days → share_to amount last days ≤ amount
at_most amount last days some within = subst (λ (all : ℕ). share_to amount last days ≤ all) (ends amount days some) (grows amount last days days some within)

-- The law ----

-- no day takes nothing
begins : (amount days : ℕ) → 0 < days → share_to amount 0 days ≡ 0
begins amount days some =
    let none : 2 * (amount * 0) ≡ 0 * (2 * days) = omega arith in
    let half : days < 2 * days = omega arith in
    ap (λ (n : ℕ). (n + days) / (2 * days)) none ∙ div-mul-add 0 (2 * days) days half

from_nothing : (a b c : ℕ) → a ≡ 0 → a + b ≡ c → b ≡ c
from_nothing a b c none sum = omega arith

-- so the shares of the days up to one are what these days take
up_to : (amount last days : ℕ) → 0 < days → sum_by (λ day. day_share amount day days) (range_with_len 1 last) ≡ share_to amount last days
up_to amount last days some =
    let end : 0 + last ≡ last = omega arith in
    let grown = λ (day : ℕ). grows amount day (day + 1) days some (omega arith) in
    from_nothing (share_to amount 0 days) _ (share_to amount last days) (begins amount days some)
    (steps (λ (day : ℕ). share_to amount day days) 0 last grown ∙ ap (λ (day : ℕ). share_to amount day days) end)

pub nearest : (numerator denominator : ℕ) → 0 < denominator → IsNearest (round_half_up numerator denominator) numerator denominator
nearest numerator denominator some = record { not_above = omega arith; not_below = omega arith }

pub total_their_part : SharesTotalTheirPart
total_their_part amount last days some within = rw (up_to amount last days some) (nearest (amount * last) days some)

pub none_above : NoShareIsAboveTheAmount
none_above amount day days some within = let up_to = at_most amount day days some within in omega arith
