-- The record that an act makes, and the lines of a closing.
use Rattle.std.specs.Prelude.{ℕ, ◌+◌, if◌then◌else◌, Bool, false, Option, Some, None, option_and_then, List, [], length, unwrap_or}
use Rattle.std.specs.Option.{option_map, option_map_or}
use Rattle.days_core.specs.declared.rents.Rents.{Rents}
use Rattle.record_history.specs.{declared.records.Kind.Kind, declared.records.Record.Record, Records.newest_number}
use Rattle.facts_core.specs.declared.facts.Facts.{Facts}
use Rattle.rent_table.specs.{declared.plan.Plan.Plan, declared.rows.LimitRow.LimitRow, Table.limits_on, Admission.has_extremely_low_income}
use Rattle.tenancy_rules.specs.Order.{is_move_in}
use Rattle.due_dates.specs.Stale.{unit_rents_on}
use Rattle.voucher_core.specs.{declared.closing.Closing.Closing, declared.line.Line.Line, Lines.closing_lines, Lines.placed}
use Rattle.certified_figures.specs.{declared.figures.Figures.Figures, Figures.figures_of, Figures.carried_figures, Figures.no_figures}
use Rattle.book_rows.specs.declared.{command.Command.Command, closings.CloseAct.CloseAct}
use Rattle.office_step.specs.{declared.heading.Heading.Heading, Known.Known, Known.own_in, Households.record_at, Households.continued, Households.unit_continued, Eligible.eligible_of_record}
use Rattle.office_step.specs.Matter.{Matter, Basis, from_facts, carried, nothing, certifies, matter_of, household_of, own, begins_on}

-- the rents of a unit on a day
abbrev pub rents_in_unit : Known → ℕ → ℕ → Option Rents
rents_in_unit known unit day = unit_rents_on known.units known.rents unit day

-- ---- a record

-- a record of that number and act
abbrev pub entry : ℕ → ℕ → Heading → Bool → Figures → Record
entry number act heading extremely figures = record {
  household = heading.household;
  number = number;
  act = act;
  kind = heading.kind;
  from = heading.from;
  corrects = heading.corrects;
  unit = heading.unit;
  persons = figures.persons;
  size = figures.size;
  extremely = extremely;
  annual = figures.annual;
  adjusted = figures.adjusted;
  ttp = figures.ttp;
  rents = figures.rents;
  assistance = figures.assistance;
  dates = heading.dates;
}

-- the next record of the household, made by the next act
abbrev pub made_with : Known → Heading → Bool → Figures → Record
made_with known heading extremely figures =
    entry (newest_number (own_in known heading.household) + 1) (known.count + 1) heading extremely figures

-- limits stand, and by them the income is extremely low
abbrev pub is_extremely_low : Option LimitRow → Figures → Bool
is_extremely_low limits figures = option_map_or (λ row. has_extremely_low_income row figures.size figures.annual) limits false

-- a move-in of extremely low income by the limits of its first day; of other records it isn't told
abbrev pub told_extremely_low : Kind → Option LimitRow → Figures → Bool
told_extremely_low kind limits figures = if is_move_in kind then is_extremely_low limits figures else false

-- a record computed from the facts, with its unit's rents on its first day
abbrev pub made_of_facts : Known → Heading → Facts → Option Record
made_of_facts known heading facts =
    option_and_then (λ plan. option_map (λ rents. made_of (figures_of facts heading.from plan.passbook rents))
    (rents_in_unit known heading.unit heading.from)) known.plan
  where
    made_of : Figures → Record
    made_of figures = made_with known heading (told_extremely_low heading.kind (limits_on known.limits heading.from) figures) figures

-- a record that carries over what was certified, with its unit's rents on its first day
abbrev pub made_of_carried : Known → Heading → Option Record
made_of_carried known heading =
    option_and_then (λ held. option_map (λ rents. made_with known heading false (carried_figures held (eligible_of_record known.eligible held) rents))
    (rents_in_unit known heading.unit heading.from)) (continued (own_in known heading.household) heading.from)

-- a record that certifies nothing
abbrev pub made_of_nothing : Known → Heading → Record
made_of_nothing known heading = made_with known heading false no_figures

-- ---- the record of an act

-- a record of a kind of its own: for the unit that is named, or else the one that the household has
abbrev pub own_heading : Matter → Kind → Heading
own_heading about kind = record {
  household = household_of about;
  kind = kind;
  from = begins_on about;
  corrects = 0;
  unit = unwrap_or about.unit (unit_continued (own about) (begins_on about));
  dates = about.told;
}

-- a correction keeps the kind, the unit and the dates of its target
abbrev pub correction_heading : ℕ → Record → ℕ → Heading
correction_heading household target from =
    record { household = household; kind = target.kind; from = from; corrects = target.number; unit = target.unit; dates = target.dates }

-- a withdrawal has the first day of its target, and no unit
abbrev pub withdrawal_heading : ℕ → Record → Heading
withdrawal_heading household target =
    record { household = household; kind = Kind.WD; from = target.from; corrects = target.number; unit = 0; dates = None }

-- a record that names another corrects it, if it rests on something, or else withdraws it
abbrev pub heading_over : Matter → Record → Heading
heading_over about target =
    if certifies about.basis then correction_heading (household_of about) target (begins_on about)
    else withdrawal_heading (household_of about) target

abbrev pub heading_with : Matter → Option ℕ → Option Heading
heading_with about None = option_map (own_heading about) about.kind
heading_with about (Some target) = option_map (heading_over about) (record_at (own about) target)

-- the heading of the record that comes of it, if one does
abbrev pub heading_in : Matter → Option Heading
heading_in about = heading_with about about.target

abbrev pub heading_of : Known → Command → Option Heading
heading_of known asked = heading_in (matter_of known asked)

abbrev pub made_on : Known → Basis → Heading → Option Record
made_on known (from_facts facts) heading = made_of_facts known heading facts
made_on known carried heading = made_of_carried known heading
made_on known nothing heading = Some (made_of_nothing known heading)

-- the record that comes of it, if one does
abbrev pub record_in : Matter → Option Record
record_in about = option_and_then (made_on about.known about.basis) (heading_in about)

abbrev pub record_of : Known → Command → Option Record
record_of known asked = record_in (matter_of known asked)

-- ---- the lines of a closing

-- the act of the last closing, and 0 where there was none
abbrev pub last_close : Known → ℕ
last_close known = option_map_or (λ closing. closing.act) known.closing 0

-- the closing of the month by the act of that number
abbrev pub closing_by : Known → CloseAct → Plan → ℕ → Closing
closing_by known close plan act =
    record { closed = close.month; first_month = plan.first; last_close = last_close known; act = act }

-- the lines that closing the month makes
abbrev pub lines_of_close : Known → CloseAct → List Line
lines_of_close known close =
    option_map_or (λ plan. placed 1 (closing_lines (own_in known) (length known.households) (closing_by known close plan (known.count + 1))))
    known.plan []

-- the lines that the next act makes
abbrev pub lines_of : Known → Command → List Line
lines_of known (Command.Close close) = lines_of_close known close
lines_of known _ = []
