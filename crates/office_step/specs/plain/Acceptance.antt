-- When an act is accepted, in plain facts: exactly where none of the causes stands against it (docs/REFUSALS.md, 2 to 23).
use Rattle.std.specs.Prelude.{ℕ, ◌≡◌, ◌≢◌, ◌↔◌, ◌+◌, ◌≤◌, Some, None, length, All, Contains}
use Rattle.days_core.specs.OfficeDays.{last_office_day}
use Rattle.rent_table.specs.Table.{HaveOwnNames, RentActsRise, LimitActsRise}
use Rattle.wait_list.specs.Waiting.{ActsRise}
use Rattle.book_rows.specs.{declared.rows.ActRow.ActRow, declared.rows.Batch.Batch, Book.Book}
use Rattle.office_step.specs.{declared.call.Call.Call, declared.call.Capacity.Capacity, declared.refusal.Refusal.Refusal, Known.UnitsAreNumbered, Known.known_of, Made.lines_of, Matter.Matter, Matter.matter_of, Matter.own, Against.tests_on, Refusals.first_of}
use Rattle.office_step.specs.Step.{act_day, step, appends, refused}
use Rattle.office_step.specs.plain.{Counting.AllInTurn, Planned.ComesBeforePlan, Planned.IsSecondPlan, Planned.HasNoRoom, Named.NamesNothing, Seen.MissedNewer, Seen.SawNoSuch, Facts.BreaksRule, Days.TellsOutside, Standing.HasNoRents, Standing.HasNoLimits, Standing.DoesNotCount, Rightful.AreKnownDays, Rightful.BeginsOnAnother, Tenancy.PutsOutOfPlace, Tenancy.GivesUnitTwice, Units.TakesName, Units.IsForOthers, Turns.PassesOver, Admitted.IsAboveLimit, Admitted.GetsNothing, Months.ClosesAnother, Closing.ClosesOverRents, Closing.ClosesOverAnnual}

-- that refusal stands against the act, on that day and where a book may hold so many acts
pub data StandsAgainst (most today : ℕ) (about : Matter) (refusal : Refusal) : Type 0 where
  no_plan : ComesBeforePlan about refusal → StandsAgainst most today about refusal
  plan_given : IsSecondPlan about refusal → StandsAgainst most today about refusal
  book_full : HasNoRoom most about refusal → StandsAgainst most today about refusal
  no_such : NamesNothing about refusal → StandsAgainst most today about refusal
  stale : MissedNewer about refusal → StandsAgainst most today about refusal
  unseen : SawNoSuch about refusal → StandsAgainst most today about refusal
  facts_rule : BreaksRule about refusal → StandsAgainst most today about refusal
  day_range : TellsOutside today about refusal → StandsAgainst most today about refusal
  no_rent : HasNoRents about refusal → StandsAgainst most today about refusal
  no_limits : HasNoLimits about refusal → StandsAgainst most today about refusal
  not_live : DoesNotCount about refusal → StandsAgainst most today about refusal
  wrong_day : BeginsOnAnother about refusal → StandsAgainst most today about refusal
  disorder : PutsOutOfPlace about refusal → StandsAgainst most today about refusal
  name_taken : TakesName about refusal → StandsAgainst most today about refusal
  size_misfit : IsForOthers about refusal → StandsAgainst most today about refusal
  unit_taken : GivesUnitTwice about refusal → StandsAgainst most today about refusal
  not_next : PassesOver about refusal → StandsAgainst most today about refusal
  ineligible : IsAboveLimit about refusal → StandsAgainst most today about refusal
  no_assistance : GetsNothing about refusal → StandsAgainst most today about refusal
  wrong_month : ClosesAnother about refusal → StandsAgainst most today about refusal
  rent_due : ClosesOverRents about refusal → StandsAgainst most today about refusal
  overdue : ClosesOverAnnual about refusal → StandsAgainst most today about refusal

-- what holds of all that an office knows: records, units, rents, limits and applicants came one after another, and told
-- days that it knows
pub record IsSound (about : Matter) : Type 0 where
  pub kept : AllInTurn about.known
  pub numbered : UnitsAreNumbered about.known.units
  pub named : HaveOwnNames about.known.units
  pub rents : RentActsRise about.known.rents
  pub limits : LimitActsRise about.known.limits
  pub waiting : ActsRise about.known.waiting
  pub dates : All (λ r. AreKnownDays r.dates) (own about)

-- none of the tests refuses exactly where no cause stands against the act, and the refusal that is told stands
pub record TestsArePlain (most today : ℕ) (about : Matter) : Type 0 where
  pub none : (first_of (tests_on most today about) ≡ None) ↔ ((refusal : Refusal) → ¬ StandsAgainst most today about refusal)
  pub told : (refusal : Refusal) → first_of (tests_on most today about) ≡ Some refusal → StandsAgainst most today about refusal

abbrev pub RefusalIsPlain : Type 0
RefusalIsPlain = (most today : ℕ) (about : Matter) → IsSound about → today ≤ last_office_day → TestsArePlain most today about

-- no act of the book has the call's clerk and request
abbrev pub IsNew : Book → Call → Type 0
IsNew book call = (row : ActRow) → Contains book.acts row → row.clerk ≡ call.clerk → row.request ≢ call.request

-- the lines of the call's act fit into the book
abbrev pub HasRoom : Capacity → Book → Call → Type 0
HasRoom capacity book call = length book.lines + length (lines_of (known_of book) call.command) ≤ capacity.lines

-- a new call whose lines fit is accepted exactly where no cause stands against it; and if it is refused, that cause stands
pub record IsAcceptedPlainly (capacity : Capacity) (book : Book) (session clock : ℕ) (call : Call) : Type 0 where
  pub accepted : ((rows : Batch) × (step book capacity session clock call ≡ appends rows))
      ↔ ((refusal : Refusal) → ¬ StandsAgainst capacity.acts (act_day book.acts clock) (matter_of (known_of book) call.command) refusal)
  pub told : (refusal : Refusal) → step book capacity session clock call ≡ refused refusal →
      StandsAgainst capacity.acts (act_day book.acts clock) (matter_of (known_of book) call.command) refusal

abbrev pub AcceptanceIsPlain : Type 0
AcceptanceIsPlain = (capacity : Capacity) (book : Book) (session clock : ℕ) (call : Call) → IsSound (matter_of (known_of book) call.command) →
    act_day book.acts clock ≤ last_office_day → IsNew book call → HasRoom capacity book call → IsAcceptedPlainly capacity book session clock call
