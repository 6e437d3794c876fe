-- All that is known by a book that an office comes to is sound, so that its next act is accepted exactly where no cause stands.
use Rattle.std.proofs.Common.{◌≡◌, ℕ, zero, suc, ◌+◌, ◌<◌, ◌≤◌, arith, Bool, true, false, List, [], ◌∷◌, Option, Some, None, length, if◌then◌else◌, ◌==◌, not, filter_map}
use Rattle.std.specs.Prelude.{All, AllPairs, slice_index_or}
use Rattle.std.specs.{Option.option_map, List.list_any}
use Rattle.std.proofs.lemmas.{Bool.Decides.nat_tests, Grind.common_steps, List.append-nil, List.Elements.All-push, List.Elements.All-contains, List.Kept.AllPairs-filter}
use Rattle.list_laws.proofs.{FilterMaps.AllPairs-filter_map, Finds.find_holds, Options.option_map_none, Options.option_map_some}
use Rattle.days_core.specs.OfficeDays.{last_office_day}
use Rattle.record_history.specs.declared.records.Record.{Record}
use Rattle.rent_table.specs.{declared.rows.Unit.Unit as UnitRow, declared.rows.RentRow.RentRow, declared.rows.LimitRow.LimitRow, Table.HaveOwnNames, Table.RentActsRise, Table.LimitActsRise}
use Rattle.rent_table.proofs.OwnLemmas.{HaveOwnNames-push}
use Rattle.wait_list.specs.{declared.applicant.Applicant.Applicant, Waiting.ActsRise}
use Rattle.book_rows.specs.{declared.command.Command.Command, declared.property.UnitAct.UnitAct, declared.rows.ActRow.ActRow, Book.Book}
use Rattle.office_step.specs.{declared.call.Capacity.Capacity, declared.heading.Heading.Heading, declared.known.Application.Application, Known.Known, Known.known_of, Known.own_in, Households.record_at, Step.IsReached, Step.act_day}
use Rattle.office_step.specs.Acts.{Act, act_of, acts_of, numbered, unit_in, unit_row, rents_in, rent_row, limits_in, limit_row, apply_in, application_by, applications_of, applicant_of, ranks_of, takes_off_list, plan_of}
use Rattle.office_step.specs.Made.{record_of, heading_in, heading_with, own_heading, heading_over, correction_heading, withdrawal_heading}
use Rattle.office_step.specs.Matter.{Matter, matter_of, certifies, household_of, own, begins_on}
use Rattle.office_step.proofs.{Headed.IsHeaded, Headed.made_is_headed, Passed.Passed}
use Rattle.office_laws.specs.Kept.{AreActs}
use Rattle.office_laws.proofs.{Inversion.accepted, Inversion.passes, Known.next, Known.by_acts, Own.owned, Rows.last_within, Reached.books_are_kept, Replies.act_numbered, InOrder.own_in_order, Dated.begin_in_time}
use Rattle.office_step.specs.plain.{Counting.AllInTurn, Rightful.AreKnownDays}
use Rattle.office_laws.specs.Accepting.{ReachedBooksAreSound, AcceptanceOfReachedBooks}
use Rattle.office_step.proofs.Exactly.Acceptance.{told_known, acceptance_is_plain}

-- ---- days

pub day_is_lived : (capacity : Capacity) (book : Book) → IsReached capacity book → (clock : ℕ) → act_day book.acts clock ≤ last_office_day
day_is_lived capacity book reached clock = omega (arith, last_within book.acts (books_are_kept capacity book reached).acts.years)

-- ---- records

in_turn : (capacity : Capacity) (book : Book) → IsReached capacity book → AllInTurn (known_of book)
in_turn capacity book reached household = record {
  numbered = (own_in_order capacity book reached household).numbered;
  begun = λ r held. All-contains (λ r. r.from ≤ last_office_day) (own_in (known_of book) household) r (begin_in_time capacity book reached household) held;
}

abbrev TellsKnownDays : Record → Type 0
TellsKnownDays r = AreKnownDays r.dates

-- a record tells the days of its command, those of the record that it corrects, or none
heading_tells : (about : Matter) → AreKnownDays about.told → All TellsKnownDays (own about) → (heading : Heading) → heading_in about ≡ Some heading →
    AreKnownDays heading.dates
heading_tells about told held heading is = by_target about.target is
  where
    over : (target : Record) → TellsKnownDays target → (rests : Bool) →
        AreKnownDays (if rests then correction_heading (household_of about) target (begins_on about) else withdrawal_heading (household_of about) target).dates
    over target known true = known
    over target known false = λ dates none. absurd (cc)

    by_target : (target : Option ℕ) → heading_with about target ≡ Some heading → AreKnownDays heading.dates
    by_target None is =
        option_map_some (own_heading about) about.kind heading is (λ kind found same. rw (← same) told)
    by_target (Some number) is =
        option_map_some (heading_over about) (record_at (own about) number) heading is (λ target found same.
        rw (← same) (over target
        (find_holds (λ (held : Record). held.number == number) TellsKnownDays (own about) target found held).0 (certifies about.basis)))

made_tells : (known : Known) (most today : ℕ) (asked : Command) (r : Record) → today ≤ last_office_day → Passed known most today asked →
    record_of known asked ≡ Some r → ((household : ℕ) → All TellsKnownDays (own_in known household)) → TellsKnownDays r
made_tells known most today asked r by free is held =
    let about : Matter = matter_of known asked in
    let headed : IsHeaded known asked r = made_is_headed known asked r is in
    rw headed.under.is
    (heading_tells about (told_known today about by free.day_range) (held (household_of about)) headed.heading headed.is_its)

tell_known_days : (capacity : Capacity) (book : Book) → IsReached capacity book → (household : ℕ) → All TellsKnownDays (own_in (known_of book) household)
tell_known_days capacity =
    by_acts (λ known. (household : ℕ) → All TellsKnownDays (own_in known household)) capacity
    (λ household k d within. grind (arith, common_steps, nat_tests, within))
    (λ book rows reached appends held household.
    (let free = passes capacity book rows appends in
    let by : rows.act.day ≤ last_office_day = omega (arith, (accepted capacity book rows appends).day, day_is_lived capacity book reached rows.act.day) in
    owned (All TellsKnownDays) (known_of book) appends.call.command free.no_such household (held household)
    (λ r is same. All-push TellsKnownDays (own_in (known_of book) r.household) r (held r.household)
    (made_tells (known_of book) capacity.acts rows.act.day appends.call.command r by free is held))))

-- ---- units

numbered_from : (first : ℕ) (units : List UnitAct) (place : ℕ) (d : UnitRow) → place < length (numbered unit_row first units) →
    (slice_index_or (numbered unit_row first units) place d).number ≡ first + place
numbered_from first [] place d within = absurd (omega (arith, within))
numbered_from first (unit ∷ units) zero d within = omega arith
numbered_from first (unit ∷ units) (suc place) d within = omega (arith, numbered_from (first + 1) units place d (omega (arith, within)))

named_more : (known : Known) (most today : ℕ) (asked : Command) → Passed known most today asked → HaveOwnNames known.units → HaveOwnNames (next known asked).units
named_more known most today (Command.Unit unit) free own =
    HaveOwnNames-push known.units (unit_row (length known.units + 1) unit) own (option_map_none _ _ free.name_taken)
named_more known most today _ free own = rw (append-nil known.units) own

own_names : (capacity : Capacity) (book : Book) → IsReached capacity book → HaveOwnNames (known_of book).units
own_names capacity =
    by_acts (λ known. HaveOwnNames known.units) capacity (λ i j d before within. absurd (omega (arith, within)))
    (λ book rows reached appends own. named_more (known_of book) capacity.acts rows.act.day appends.call.command (passes capacity book rows appends) own)

-- ---- what acts set

module _ (rows : List ActRow) (are : AreActs rows) where
  pub acts_rise : AllPairs (λ (act next : Act). act.n < next.n) (acts_of rows)
  acts_rise =
      AllPairs-filter_map (λ row next. row.n < next.n) (λ act next. act.n < next.n) act_of
      (λ row next act later is comes by. omega (arith, by, act_numbered row act is, act_numbered next later comes)) rows
      (λ i j d before within. omega (arith, are.numbers i d (omega (arith, before, within)), are.numbers j d within))

  -- what each act sets has its number, so that these numbers rise too
  set_rise : {Row : Type 0} (number : Row → ℕ) (set : Act → Option Row) → ((act : Act) (row : Row) → set act ≡ Some row → act.n ≡ number row) →
      AllPairs (λ (row next : Row). number row < number next) (filter_map set (acts_of rows))
  set_rise number set names =
      AllPairs-filter_map (λ act next. act.n < next.n) (λ row next. number row < number next) set
      (λ act next row later is comes by. omega (arith, by, names act row is, names next later comes)) (acts_of rows) acts_rise

  rents_rise : RentActsRise (filter_map (λ act. option_map (rent_row act.n) (rents_in act.command)) (acts_of rows))
  rents_rise =
      set_rise (λ (row : RentRow). row.act) (λ act. option_map (rent_row act.n) (rents_in act.command)) (λ act row is. grind (arith, common_steps, is))

  pub limits_rise : LimitActsRise (filter_map (λ act. option_map (limit_row act.n) (limits_in act.command)) (acts_of rows))
  limits_rise =
      set_rise (λ (row : LimitRow). row.act) (λ act. option_map (limit_row act.n) (limits_in act.command)) (λ act row is. grind (arith, common_steps, is))

  applications_rise : AllPairs (λ (application next : Application). application.act < next.act) (applications_of (acts_of rows))
  applications_rise =
      set_rise (λ (application : Application). application.act) (λ act. option_map (application_by act.n) (apply_in act.command)) (λ act row is. grind (arith, common_steps, is))

-- ---- applicants

acts_above : (ranks : List ℕ) (first act : ℕ) (applications : List Application) → All (λ application. act < application.act) applications →
    All (λ (applicant : Applicant). act < applicant.act) (numbered (applicant_of ranks) first applications)
acts_above ranks first act [] above k d within = absurd (omega (arith, within))
acts_above ranks first act (application ∷ applications) above zero d within = omega (arith, above 0 application (omega arith))
acts_above ranks first act (application ∷ applications) above (suc k) d within =
    acts_above ranks (first + 1) act applications (λ i e inside. above (suc i) e (omega (arith, inside))) k d (omega (arith, within))

applicants_rise : (ranks : List ℕ) (first : ℕ) (applications : List Application) → AllPairs (λ application next. application.act < next.act) applications →
    ActsRise (numbered (applicant_of ranks) first applications)
applicants_rise ranks first [] rise i j d before within = absurd (omega (arith, within))
applicants_rise ranks first (application ∷ applications) rise zero zero d before within = absurd (omega (arith, before))
applicants_rise ranks first (application ∷ applications) rise zero (suc j) d before within =
    acts_above ranks (first + 1) application.act applications (λ k e inside. rise 0 (suc k) e (omega arith) (omega (arith, inside))) j d (omega (arith, within))
applicants_rise ranks first (application ∷ applications) rise (suc i) zero d before within = absurd (omega (arith, before))
applicants_rise ranks first (application ∷ applications) rise (suc i) (suc j) d before within =
    applicants_rise ranks (first + 1) applications (λ k l e lower inside. rise (suc k) (suc l) e (omega (arith, lower)) (omega (arith, inside))) i j d
    (omega (arith, before)) (omega (arith, within))

-- ---- the book

pub reached_books_are_sound : ReachedBooksAreSound
reached_books_are_sound capacity book reached asked =
    let acts : List Act = acts_of book.acts in
    let are : AreActs book.acts = (books_are_kept capacity book reached).acts in record {
      kept = in_turn capacity book reached;
      numbered = λ place d within. omega (arith, numbered_from 1 (filter_map (λ act. unit_in act.command) acts) place d within);
      named = own_names capacity book reached;
      rents = rents_rise book.acts are;
      limits = limits_rise book.acts are;
      waiting = AllPairs-filter (λ (applicant next : Applicant). applicant.act < next.act)
          (λ applicant. not (list_any (λ act. takes_off_list applicant.number act.command) acts)) (numbered (applicant_of (ranks_of (plan_of acts))) 1 (applications_of acts))
          (applicants_rise (ranks_of (plan_of acts)) 1 (applications_of acts) (applications_rise book.acts are));
      dates = tell_known_days capacity book reached (household_of (matter_of (known_of book) asked));
    }

pub acceptance_of_reached_books : AcceptanceOfReachedBooks
acceptance_of_reached_books capacity book reached session clock call =
    acceptance_is_plain capacity book session clock call (reached_books_are_sound capacity book reached call.command) (day_is_lived capacity book reached clock)
