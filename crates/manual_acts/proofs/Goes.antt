-- What makes an act accepted, for any office with room for what the manual tells.
use Rattle.std.proofs.Common.{◌≡◌, ℕ, ◌+◌, ◌<◌, ◌≤◌, arith, Bool, true, ◌&&◌, nat_le, nat_lt, List, [], Option, length}
use Rattle.std.specs.{Prelude.◌^◌, Option.option_map_or}
use Rattle.std.proofs.lemmas.List.Elements.{All-nil, All-cons}
use Rattle.days_core.specs.{Calendar.last_day, OfficeDays.first_office_day, OfficeDays.last_office_day}
use Rattle.facts_core.specs.{declared.incomes.IncomeKind.IncomeKind, declared.members.Member.Member, Facts.FactsFit, Facts.IncomeFits, Facts.AssetFits, Facts.DisposalFits}
use Rattle.record_history.specs.declared.records.Record.{Record}
use Rattle.voucher_core.specs.declared.line.Line.{Line}
use Rattle.book_rows.specs.{declared.command.Command.Command, Fit.is_fit, Fit.is_within}
use Rattle.command_forms.specs.Holdable.{IsHoldable}
use Rattle.office_step.specs.{declared.reply.Made.Made, Known.Known, After.known_after, Made.record_of, Made.lines_of, Matter.matter_of, Reply.certified, Reply.closed}
use Rattle.manual_acts.specs.{Taken.Told, Commands.living_alone}
use Rattle.manual_acts.proofs.Tests.{Passes}

-- what came before an act: so many lines, the last act's day, and the greatest request
pub record Past : Type 0 where
  pub held : ℕ
  pub day : ℕ
  pub request : ℕ

abbrev pub past : ℕ → ℕ → ℕ → Past
past held day request = record { held = held; day = day; request = request }

abbrev pub past_then : Past → Told → Past
past_then before told = past (before.held + length told.lines) told.day told.request

-- it is fit, its day is one that an office knows and no earlier than the last, its request is a greater one, and there is
-- room for it and its lines
abbrev pub is_ready : Known → Past → Told → Bool
is_ready known before told =
    is_fit told.asked
    && (is_within first_office_day last_office_day told.day
    && (nat_le before.day told.day
    && (nat_lt before.request told.request && (nat_lt known.count 27 && nat_le (before.held + length told.lines) 29))))

-- what the reply to an act tells, by what was known before it and by the record and the lines that it makes
abbrev pub reply_by : Known → Option Record → List Line → Command → Made
reply_by known made lines (Command.Unit unit) = Made.Unit (length known.units + 1)
reply_by known made lines (Command.Apply apply) = Made.Applicant (length known.applications + 1)
reply_by known made lines (Command.Close close) = closed lines close.month
reply_by known made lines asked = option_map_or certified made Made.Nothing

-- by what is known, after that past
pub record Goes (known : Known) (before : Past) (told : Told) : Type 0 where
  pub ready : is_ready known before told ≡ true
  pub holdable : IsHoldable told.asked
  pub passes : Passes told.day (matter_of known told.asked) told.made
  pub made : record_of known told.asked ≡ told.made
  pub lines : lines_of known told.asked ≡ told.lines
  pub reply : reply_by known told.made told.lines told.asked ≡ told.reply

-- what is known after it
abbrev pub known_then : Known → Told → Known
known_then known told = known_after known told.asked told.made

-- one person's facts fit what a program can hold
pub alone_fits : (born : ℕ) (kind : IncomeKind) (annual medical : ℕ) → born ≤ last_day → annual < 2 ^ 32 → medical < 2 ^ 32 →
    FactsFit (living_alone born kind annual medical)
alone_fits born kind annual medical by few few_medical = record {
  members = All-cons (λ (person : Member). person.born ≤ last_day) _ [] by (All-nil (λ (person : Member). person.born ≤ last_day));
  incomes = All-cons IncomeFits _ [] (record { member = omega arith; annual = few }) (All-nil IncomeFits);
  assets = All-nil AssetFits;
  disposals = All-nil DisposalFits;
  care_work = omega arith;
  care_school = omega arith;
  disability = omega arith;
  medical = few_medical;
  welfare = omega arith;
}
