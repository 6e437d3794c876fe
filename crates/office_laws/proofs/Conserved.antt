-- After any acts the lines total what was certified at the last closing.
use Rattle.office_laws.proofs.Words.{eqb-true, Book, Capacity, ◌≡◌, ◌∙◌, sym, refl, subst, ℕ, ◌+◌, ◌<◌, ◌≤◌, inl, inr, arith, pos, false, ◌&&◌, List, [], ◌++◌, Option, Some, None, length, All, IfSome, if◌then◌else◌, nat_le, option_map, option_map_or, option_or, append-nil, Record, Plan, Closing, Line, closing_lines, placed, paid, none_settled, closing_settles, pays_no_other, settled_stays, Command, Closed, plan_in, Known, known_of, own_in, record_of, lines_of, next_to_close, refused_unless, Refusal, is_plan, Passed, IsReached, reached_empty, reached_more, IsOneOf, records_past, IfSome_then, nat_tests, common_steps}
use Rattle.std.specs.Prelude.{ℤ, nat_eq}
use Rattle.voucher_core.specs.Law.{IsSettled}
use Rattle.std.specs.Option.{option_eq}
use Rattle.office_laws.specs.Conserved.{span_of, AreSettled, LinesAreSettled, due_for}
use Rattle.office_laws.proofs.{Inversion.accepted, Inversion.passes, Reached.plan_there, Known.next, Known.known_next, Known.by_acts, Own.own_after, Own.more_of, Own.later_than}

-- ---- the last closing is one of the acts

abbrev IsThere : Known → Type 0
IsThere known = IfSome known.closing (λ closing. IsOneOf known.count closing.act)

closing_there_more : (known : Known) (asked : Command) → IsThere known → IsThere (next known asked)
closing_there_more known (Command.Close close) there = omega arith
closing_there_more known _ there = IfSome_then known.closing there (λ closing is. record { least = is.least; most = omega (arith, is.most) })

pub closing_there : (capacity : Capacity) (book : Book) → IsReached capacity book → IsThere (known_of book)
closing_there capacity =
    by_acts IsThere capacity tt (λ book rows reached appends there. closing_there_more (known_of book) appends.call.command there)

-- ---- an act that closes nothing

-- what is settled stays so
quiet : (own more : ℕ → List Record) (count : ℕ) (lines : List Line) → ((household act : ℕ) → act ≤ count → All (λ r. act < r.act) (more household)) →
    (given plan : Option Plan) (closing : Option Closed) → IfSome closing (λ closing. IsOneOf count closing.act) →
    AreSettled plan closing own lines → AreSettled (option_or plan given) closing (λ household. own household ++ more household) (lines ++ [])
quiet own more count lines later given plan None there settled = append-nil lines ∙ settled
quiet own more count lines later given None (Some closing) there settled = absurd settled
quiet own more count lines later given (Some plan) (Some closing) there settled = (
  settled.0,
  rw (append-nil lines)
      (settled_stays own more (span_of plan closing) lines (λ household. later household closing.act there.most) settled.1),
)

-- ---- a closing

-- another month is to be closed next
abbrev pub is_wrong : Option ℕ → ℕ → Option Refusal
is_wrong right month = refused_unless (option_eq nat_eq right (Some month)) (Refusal.WrongMonth right)

pub next_closed : (first month : ℕ) (closing : Option Closed) → is_wrong (next_to_close first (option_map (λ closing. closing.month) closing)) month ≡ None →
    option_map_or (λ closing. closing.month + 1) closing first ≡ month
next_closed first month closing right = grind (arith, common_steps, nat_tests, right)

-- the closing of a month by the act of that number, after the last one
abbrev after : Plan → Option Closed → Closed → Closing
after plan closing next = record {
  closed = next.month;
  first_month = plan.first;
  last_close = option_map_or (λ closing. closing.act) closing 0;
  act = next.act;
}

close_settles : (own : ℕ → List Record) (count : ℕ) → ((household : ℕ) → count < household → own household ≡ []) →
    (plan : Plan) (closing : Option Closed) (acts : ℕ) → IfSome closing (λ closing. IsOneOf acts closing.act) → (next : Closed) (lines : List Line) →
    is_wrong (next_to_close plan.first (option_map (λ closing. closing.month) closing)) next.month ≡ None →
    AreSettled (Some plan) closing own lines →
    (plan.first ≤ next.month) × IsSettled own (span_of plan next) (lines ++ placed 1 (closing_lines own count (after plan closing next)))
close_settles own count past plan None acts there next lines right settled =
    let same : plan.first ≡ next.month = next_closed plan.first next.month None right in (
      omega arith,
      closing_settles own count (after plan None next) 1 lines past (omega arith) (λ is. sym same)
          (rw (settled, ← same) (none_settled own plan.first 0)),
    )
close_settles own count past plan (Some closing) acts there next lines right settled =
    let same : closing.month + 1 ≡ next.month = next_closed plan.first next.month (Some closing) right in (
      omega (arith, settled.0),
      closing_settles own count (after plan (Some closing) next) 1 lines past (omega (arith, settled.0))
          (λ is. (let none = eqb-true closing.act 0 is in absurd (omega (arith, none, there.least)))) (rw same at settled.1),
    )

-- ---- one act more

settled_more : (known : Known) (most today : ℕ) (asked : Command) → (is_plan asked ≡ false → (plan : Plan) × (known.plan ≡ Some plan)) →
    Passed known most today asked → (lines : List Line) → IsThere known → AreSettled known.plan known.closing (own_in known) lines →
    AreSettled (next known asked).plan (next known asked).closing (own_in (next known asked)) (lines ++ lines_of known asked)
settled_more known most today (Command.Close close) planned free lines there settled =
    let plan = planned refl in
    rw (plan.1, append-nil known.households)
    (close_settles (own_in known) (length known.households) (records_past known.households) plan.0 known.closing known.count there
    (record { act = known.count + 1; month = close.month }) lines (rw plan.1 at free.wrong_month) (rw plan.1 at settled))
settled_more known most today asked planned free lines there settled =
    subst (λ (own : ℕ → List Record). AreSettled (next known asked).plan (next known asked).closing own (lines ++ lines_of known asked))
    (λ i household. sym (own_after known asked free.no_such household) i)
    (quiet (own_in known) (more_of (record_of known asked)) known.count lines (λ household act by. later_than known asked act by household)
    (plan_in asked) known.plan known.closing there settled)

pub lines_are_settled : LinesAreSettled
lines_are_settled capacity _ reached_empty = refl
lines_are_settled capacity _ (reached_more {book} {rows} reached appends) =
    subst (λ (known : Known). AreSettled known.plan known.closing (own_in known) (book.lines ++ rows.lines)) (sym (known_next capacity book rows reached appends))
    (rw (accepted capacity book rows appends).lines
    (settled_more (known_of book) capacity.acts rows.act.day appends.call.command (plan_there capacity book rows reached appends)
    (passes capacity book rows appends) book.lines (closing_there capacity book reached) (lines_are_settled capacity book reached)))

-- ---- each household and month

pub month_total : (own : ℕ → List Record) (plan : Option Plan) (closing : Option Closed) (lines : List Line) → AreSettled plan closing own lines →
    (household month : ℕ) → 1 ≤ household → paid household month lines ≡ pos (due_for plan closing (own household) month)
month_total own None None lines settled household month low = rw settled refl
month_total own (Some plan) None lines settled household month low = rw settled refl
month_total own None (Some closing) lines settled household month low = absurd settled
month_total own (Some plan) (Some closing) lines settled household month low =
    by_span (paid household month lines) _ plan.first closing.month (settled.1.months household month low)
    (λ early. pays_no_other own (span_of plan closing) lines household month settled.1 (inl early))
    (λ late. pays_no_other own (span_of plan closing) lines household month settled.1 (inr late))
  where
    by_span : (total : ℤ) (due first last : ℕ) → (first ≤ month → month < last + 1 → total ≡ pos due) →
        (month < first → total ≡ pos 0) → (last + 1 ≤ month → total ≡ pos 0) → total ≡ pos (if nat_le first month && nat_le month last then due else 0)
    by_span total due first last within early late = grind (arith, common_steps, nat_tests, within, early, late)
