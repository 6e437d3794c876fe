-- The record of an act names it and a household that is there, or the next; and its lines name it.
use Rattle.office_laws.proofs.Words.{◌≡◌, ℕ, zero, suc, ◌+◌, ◌<◌, arith, List, [], ◌∷◌, Some, None, length, All, slice_index_or, All-nil, All-append, Record, Plan, Closing, Line, month_lines, known_as_of, lines_for, adjustment_lines, closing_lines, placed, Command, Known, own_in, record_of, closing_by, lines_of, option_map_or, made_is_headed, all_earlier, refl, names_given, no_such, Matter, matter_of, are_there, household_there, IsHeaded, of_household, IsOneOf, next_under}
use Rattle.list_laws.proofs.Pieces.{all_pieces}
use Rattle.voucher_core.proofs.Paid.{each_line, all_placed}

pub record_names_act : (known : Known) (asked : Command) (r : Record) → record_of known asked ≡ Some r → r.act ≡ known.count + 1
record_names_act known asked r is = (next_under known _ r (made_is_headed known asked r is).under).act

pub made_within : (known : Known) (asked : Command) (r : Record) → no_such (matter_of known asked) ≡ None → record_of known asked ≡ Some r →
    IsOneOf (length known.households + length (names_given known asked)) r.household
made_within known (Command.Household act) r named is =
    let headed : IsHeaded known (Command.Household act) r = made_is_headed known (Command.Household act) r is in
    let about : Matter = matter_of known (Command.Household act) in
    let own = of_household about headed.heading headed.is_its in
    grind (arith, headed.under.is, own, household_there known act.household (are_there about named).household)
made_within known asked r named is =
    let headed : IsHeaded known asked r = made_is_headed known asked r is in
    grind (arith, headed.under.is, headed.is_its)

-- ---- lines

-- the lines that closing a month makes, from the plan's first
abbrev pub lines_from : Known → ℕ → Plan → List Line
lines_from known month plan =
    placed 1 (closing_lines (own_in known) (length known.households) (closing_by known (record { month = month }) plan (known.count + 1)))

-- what holds of no lines and of those of each closing holds of those of each act
lines_are : (P : List Line → Type 0) (known : Known) → P [] → ((month : ℕ) (plan : Plan) → P (lines_from known month plan)) →
    (asked : Command) → P (lines_of known asked)
lines_are P known none closing (Command.Close close) =
    elim known.plan as (λ plan. P (option_map_or (lines_from known close.month) plan [])) [ None ↦ none | Some plan ↦ closing close.month plan ]
lines_are P known none closing _ = none

-- they name the act, and the month that it closes
module _ (own : ℕ → List Record) (count : ℕ) (closing : Closing) where
  abbrev Names : Line → Type 0
  Names line = (line.act ≡ closing.act) × (line.month ≡ closing.closed)

  month_names : (before now : ℕ → List Record) (month : ℕ) → All Names (lines_for before now count closing month)
  month_names before now month =
      all_pieces Names (λ h. month_lines closing h month (before h) (now h)) 1 count
      (λ h low high. each_line Names closing h month (before h) (now h) (λ run. (refl, refl)))

  closing_names : All Names (placed 1 (closing_lines own count closing))
  closing_names =
      all_placed Names (λ line place is. is) 1 (closing_lines own count closing)
      (All-append Names (adjustment_lines own count closing) (lines_for (λ h. []) (known_as_of own closing.act) count closing closing.closed)
      (all_earlier own count closing Names (λ month low high. month_names (known_as_of own closing.last_close) (known_as_of own closing.act) month))
      (month_names (λ h. []) (known_as_of own closing.act) closing.closed))

pub lines_name_month : (known : Known) (month : ℕ) (plan : Plan) → All (λ line. (line.act ≡ known.count + 1) × (line.month ≡ month)) (lines_from known month plan)
lines_name_month known month plan =
    closing_names (own_in known) (length known.households) (closing_by known (record { month = month }) plan (known.count + 1))

pub lines_name_act : (known : Known) (asked : Command) → All (λ line. line.act ≡ known.count + 1) (lines_of known asked)
lines_name_act known =
    lines_are (All (λ line. line.act ≡ known.count + 1)) known (All-nil (λ line. line.act ≡ known.count + 1)) (λ month plan k d within.
    (lines_name_month known month plan k d within).0)

-- and have the places 1, 2 and so on
abbrev ArePlaced : ℕ → List Line → Type 0
ArePlaced first lines = (place : ℕ) (d : Line) → place < length lines → (slice_index_or lines place d).place ≡ first + place

placed_are : (first : ℕ) (lines : List Line) → ArePlaced first (placed first lines)
placed_are first [] place d within = absurd (omega arith)
placed_are first (line ∷ lines) zero d within = omega arith
placed_are first (line ∷ lines) (suc place) d within = omega (arith, placed_are (first + 1) lines place d (omega arith))

pub lines_have_places : (known : Known) (asked : Command) → ArePlaced 1 (lines_of known asked)
lines_have_places known = lines_are (ArePlaced 1) known (λ place d within. absurd (omega arith)) (λ month plan. placed_are 1 _)
