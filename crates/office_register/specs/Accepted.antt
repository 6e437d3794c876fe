-- Which acts may come next.
use Rattle.std.specs.Prelude.{ℕ, ◌≡◌, ◌≤◌, ◌<◌, ◌+◌, true, Option, None, List, [], ◌∷◌, ◌++◌, unwrap_or}
use Rattle.std.specs.Option.{option_map}
use Rattle.days_core.specs.OfficeDays.{last_office_day}
use Rattle.record_history.specs.{declared.records.Record.Record, Records.newest_number, Held.with_record}
use Rattle.book_rows.specs.{declared.command.Command.Command, Fit.is_fit}
use Rattle.office_refusals.specs.Below.office_step.{declared.known.Application.Application, Acts.at_number, Known.Known, Known.own_in, After.next_act, Made.record_of, Against.refused_by}
use Rattle.record_history.specs.Limits.{most_acts}

-- The command is fit, nothing stands against it in an office of at most 100,000 acts on a day up to 2099-12-31, and this
-- is the record that it makes, if it makes one.
pub record IsAccepted (known : Known) (asked : Command) (made : Option Record) : Type 0 where
  pub most : ℕ
  pub today : ℕ
  pub few : most ≤ most_acts
  pub lived : today ≤ last_office_day
  pub fit : is_fit asked ≡ true
  pub free : refused_by known most today asked ≡ None
  pub is_made : made ≡ record_of known asked

-- the name of the applicant of that number, and the empty one of one who isn't there
abbrev pub applicant_name : List Application → ℕ → List ℕ
applicant_name applications number = unwrap_or (option_map (λ application. application.apply.name) (at_number applications number)) []

-- the record is the next of its household, made by the next act, and corrects or withdraws an earlier one or none
pub record IsNext (known : Known) (r : Record) : Type 0 where
  pub number : r.number ≡ newest_number (own_in known r.household) + 1
  pub act : r.act ≡ next_act known
  pub earlier : r.corrects < r.number

-- what is known with a household more, of that name and first record, of whose members so many are eligible
abbrev pub with_household : Known → List ℕ → Record → ℕ → Known
with_household known name r eligible = record known {
  count = next_act known;
  names = known.names ++ name ∷ [];
  households = with_record (known.households ++ [] ∷ []) r;
  requests = known.requests ++ None ∷ [];
  eligible = known.eligible ++ eligible ∷ [];
}

-- what is known with a record more of a household that there is
abbrev pub with_further : Known → Record → ℕ → Known
with_further known r eligible = record known {
  count = next_act known;
  households = with_record known.households r;
  eligible = known.eligible ++ eligible ∷ [];
}
