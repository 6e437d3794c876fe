-- What an office answers to a command, and what holds of a record that an act makes.
use Rattle.std.specs.Prelude.{ℕ, ◌≡◌, ◌≤◌, ◌<◌, ◌+◌, ⊤, Option, Some, None, Result, Ok, Err, length, IfSome}
use Rattle.days_core.specs.{declared.rents.Rents.Rents, OfficeDays.last_office_day}
use Rattle.record_history.specs.{declared.records.Record.Record, Records.newest_number, Held.IsWithin}
use Rattle.book_rows.specs.declared.command.Command.{Command}
use Rattle.admission_order.specs.Below.office_step.{declared.refusal.Refusal.Refusal, declared.heading.Heading.Heading, Households.AreBy, Matter.Matter, Matter.matter_of, Matter.Basis, Matter.from_facts, Known.Known, Known.own_in}
use Rattle.facts_core.specs.Rules.{broken_rule}
use Rattle.admission_order.specs.Below.office_register.Registered.{HasDates}

-- it is refused, or else makes that record or none
abbrev pub judged_by : Option Refusal → Option Record → Result (Option Record) Refusal
judged_by (Some refused) made = Err refused
judged_by None made = Ok made

-- the rents lie within their ranges
pub record AreWithin (rents : Rents) : Type 0 where
  pub contract_rent : rents.contract_rent ≤ 99999
  pub utility : rents.utility ≤ 9999

-- the record is the next of its household, and lies within the bounds of all records
pub record IsMade (known : Known) (made : Record) : Type 0 where
  pub next : made.number ≡ newest_number (own_in known made.household) + 1
  pub within : IsWithin made
  pub dates : HasDates made

-- the record is of a household that there is, or of the next
pub record IsPlaced (known : Known) (made : Record) : Type 0 where
  pub first : 1 ≤ made.household
  pub next : made.household ≤ length known.households + 1

-- the size of the family is one for which there are income limits
pub record HasSize (made : Record) : Type 0 where
  pub least : 1 ≤ made.size
  pub most : made.size ≤ 12

abbrev pub HasSizeBy : Basis → Record → Type 0
HasSizeBy (from_facts facts) made = HasSize made
HasSizeBy _ made = ⊤

-- the facts break no rule on the day, where there are some
abbrev pub AreKept : Basis → ℕ → Type 0
AreKept (from_facts facts) from = broken_rule facts from ≡ None
AreKept _ from = ⊤

-- it is what some command is about
pub record IsOfCommand (about : Matter) : Type 0 where
  pub asked : Command
  pub is : about ≡ matter_of about.known asked

-- what a command tells of its record's first day and of a change comes by 2099-12-31
pub record IsInTime (about : Matter) : Type 0 where
  pub from : IfSome about.from (λ day. day ≤ last_office_day)
  pub last : IfSome about.last (λ day. day < last_office_day)
  pub told : IfSome about.told (AreBy last_office_day)

-- a record can be made under the heading
pub record IsReady (basis : Basis) (heading : Heading) : Type 0 where
  pub from : heading.from ≤ last_office_day
  pub dates : IfSome heading.dates (AreBy last_office_day)
  pub facts : AreKept basis heading.from

-- a closing is of that month or an earlier one
abbrev pub ClosesBy : ℕ → Command → Type 0
ClosesBy month (Command.Close close) = close.month ≤ month
ClosesBy month _ = ⊤
