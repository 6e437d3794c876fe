-- What each act had to meet before it was accepted.
use Rattle.office_laws.proofs.Words.{Bool, Refusal, same_Some, Kind, IfSome-each, le-leb, lt-leb, false_from_ne_true, AllPairs-filter, All-filter, is_live, rise, none_above, get_or, All-contains, Contains-push, Contains-append_left, filter, option_map, common_steps, nat_tests, ◌≡◌, ◌∙◌, sym, ap, refl, subst, ℕ, ◌+◌, ◌<◌, ◌≤◌, ◌==◌, arith, true, false, List, [], ◌∷◌, ◌++◌, Option, Some, None, IfSome, length, All, Contains, nat_le, if◌then◌else◌, option_map_or, ltb-false, eqb-true, Record, is_move_out, live_records, latest, in_force, later, comes_before, newest_number, Batch, Command, HouseholdAct, HouseholdChange, Heading, Known, known_of, own_in, record_at, record_of, record_in, heading_in, correction_heading, Matter, matter_of, changing, first_of, refused_if, IsInOrder, Passed, if_none, IsUnder, IsHeaded, made_is_headed, option_map_some, latest-is, pairs_order}
use Rattle.std.proofs.lemmas.List.Elements.{All-contains_itself}
use Rattle.std.specs.Prelude.{nat_lt, option_and_then}
use Rattle.record_history.specs.declared.records.Dates.{Dates}
use Rattle.office_step.specs.Against.{told_days, nothing_paid}
use Rattle.office_step.proofs.Days.{InRange, days_in_range, ToldInTurn, told_in_turn}
use Rattle.book_rows.specs.declared.moves.MoveOutAct.{MoveOutAct}
use Rattle.office_step.specs.Made.{made_of_nothing, own_heading}
use Rattle.tenancy_rules.proofs.OrderLaws.{nothing_follows_move_out}
use Rattle.office_laws.specs.Terms.{CameInOrder, IsTold, Corrects, EndsWith, IsMade, MeetsTerms, ActsMeetTheirTerms}
use Rattle.office_laws.proofs.{Inversion.accepted, Inversion.passes, InOrder.own_in_order, Tried.find_holds, Lived.lived, Lived.lives_more, Unit.latest-more, Unit.has_begun, InOrder.in_order_more}

-- ---- what was seen and told

sees_all : (own : List Record) (seen : ℕ) → newest_number own ≡ length own → refused_if (nat_lt seen (newest_number own)) (Refusal.Stale (newest_number own)) ≡ None →
    refused_if (nat_lt (newest_number own) seen) (Refusal.Unseen (newest_number own)) ≡ None →
    seen ≡ length own
sees_all own seen newest not_below not_above =
    omega (arith, newest, ltb-false seen (newest_number own) (if_none _ _ not_below), ltb-false (newest_number own) seen (if_none _ _ not_above))

came_in_order : (today : ℕ) (dates : Dates) → first_of (told_days today dates) ≡ None → CameInOrder today dates
came_in_order today dates free =
    let told : ToldInTurn today dates = told_in_turn today dates free in
    record { event = told.event; notice = told.notice; done = told.done; by_today = told.by_today }

is_told : (known : Known) (today : ℕ) (act : HouseholdAct) (done : HouseholdChange) → InRange today (changing known act done) → IsTold today done
is_told known today act (HouseholdChange.Interim interim) free = came_in_order today interim.dates free.told
is_told known today act (HouseholdChange.Resume resume) free =
    let told : CameInOrder today (record { event = resume.done; notice = resume.done; done = resume.done }) = came_in_order today _ free.told in
    (told.event, told.by_today)
is_told known today act _ free = tt

-- ---- assistance

has_assistance : (about : Matter) (r : Record) → record_in about ≡ Some r → option_and_then nothing_paid (record_in about) ≡ None → 0 < r.assistance
has_assistance about r is free =
    let some : nothing_paid r ≡ None = rw is at free in
    grind (arith, common_steps, nat_tests, some)

-- ---- the record of a correction

corrects_one : (known : Known) (household number from : ℕ) (heading : Heading) (r : Record) → IsUnder known heading r →
    option_map (λ target. correction_heading household target from) (record_at (own_in known household) number) ≡ Some heading →
    Corrects (own_in known household) number from r
corrects_one known household number from heading r under own =
    option_map_some (λ target. correction_heading household target from) (record_at (own_in known household) number) heading own (λ target found same.
    (let target_is = find_holds (λ (held : Record). held.number == number) (Contains (own_in known household)) (own_in known household) target found
    (All-contains_itself (own_in known household)) in
    let named : target.number ≡ number = eqb-true target.number number target_is.1 in
    record {
      target = target;
      there = target_is.0;
      is = named;
      corrects = rw (under.is, ← same) named;
      from_day = rw (under.is, ← same) refl;
      kind = rw (under.is, ← same) refl;
      unit = rw (under.is, ← same) refl;
      dates = rw (under.is, ← same) refl;
    }))

-- ---- the record of a move-out

module _ (known : Known) (most today : ℕ) (asked : Command) (r : Record) (free : Passed known most today asked)
    (is : record_of known asked ≡ Some r) (order : IsInOrder (own_in known r.household)) (moves : is_move_out r.kind ≡ true) (zero : r.corrects ≡ 0) where
  abbrev own : List Record
  own = own_in known r.household

  lives : live_records (own ++ r ∷ []) ≡ lived known most today asked r free is order ++ r ∷ []
  lives = lives_more known most today asked r free is order (grind (arith, common_steps, moves)) zero

  force_is : (day : ℕ) → in_force (own ++ r ∷ []) day ≡
      (if nat_le r.from day then later (in_force own day) r else in_force own day)
  force_is day = ap (λ (live : List Record). latest (filter (has_begun day) live)) lives ∙ latest-more (lived known most today asked r free is order) r day

  not_begun : (day : ℕ) → day < r.from → in_force (own ++ r ∷ []) day ≡ in_force own day
  not_begun day before = rw (force_is day, lt-leb r.from day before) refl

  begun : (day : ℕ) → r.from ≤ day → in_force (own ++ r ∷ []) day ≡ later (in_force own day) r
  begun day by = rw (force_is day, le-leb r.from day by) refl

  more : IsInOrder (own ++ r ∷ [])
  more = in_order_more known most today asked r free is order

  -- none that lives comes after it
  is_last : All (λ q. comes_before r q ≡ false) (live_records own)
  is_last = λ k d within.
      (let q : Record = get_or (live_records own) k d in
      false_from_ne_true (comes_before r q) (λ before.
      (let moved_on = nothing_follows_move_out (live_records (own ++ r ∷ []))
      (AllPairs-filter (λ (held next : Record). held.number < next.number) (is_live (own ++ r ∷ [])) (own ++ r ∷ []) (rise (own ++ r ∷ []) more.numbered))
      more.live r q (rw lives (Contains-push (live_records own) r))
      (rw lives (Contains-append_left (live_records own) (r ∷ []) q (All-contains_itself (live_records own) k d within))) before in
      cc)))

  below : r.number ≡ newest_number own + 1 → All (λ q. q.number < r.number) (live_records own)
  below next = All-filter (is_live own) (λ q. q.number < r.number) own (λ k d within. omega (arith, next, none_above own order.numbered k d within))

  comes_last : (day : ℕ) → r.number ≡ newest_number own + 1 → later (in_force own day) r ≡ Some r
  comes_last day next =
      by_held (in_force own day) (latest-is comes_before (has_begun day) (live_records own) (pairs_order (λ q. q.from) (λ q. q.number))).among
    where
      by_held : (held : Option Record) → IfSome held (λ q. Contains (live_records own) q × (has_begun day q ≡ true)) → later held r ≡ Some r
      by_held None among = refl
      by_held (Some q) among =
          let not_after = All-contains (λ q. comes_before r q ≡ false) (live_records own) q is_last among.0 in
          let less = All-contains (λ q. q.number < r.number) (live_records own) q (below next) among.0 in
          grind (arith, common_steps, nat_tests, not_after, less)

  ends_with : (last : ℕ) → r.number ≡ newest_number own + 1 → r.from ≡ last + 1 → r.assistance ≡ 0 → EndsWith own last r
  ends_with last next after none = record {
    through = λ day by. ap paid_by (not_begun day (omega arith));
    no_more = λ day past. ap paid_by (begun day (omega arith) ∙ comes_last day next) ∙ none;
  }
    where
      paid_by : Option Record → ℕ
      paid_by held = option_map_or (λ r. r.assistance) held 0

-- ---- every act

moved_out : (known : Known) (act : HouseholdAct) (move_out : MoveOutAct) (r : Record) → act.change ≡ HouseholdChange.MoveOut move_out →
    record_of known (Command.Household act) ≡ Some r → r ≡ made_of_nothing known (own_heading (changing known act (HouseholdChange.MoveOut move_out)) Kind.MO)
moved_out known act move_out r moves is =
    sym (same_Some _ r (rw moves at is))

where_tested : (tested : Bool) (refused : Option Refusal) → tested ≡ true → (if tested then refused else None) ≡ None → refused ≡ None
where_tested tested refused is none = rw is at none

is_made : (known : Known) (most today : ℕ) (act : HouseholdAct) (r : Record) → Passed known most today (Command.Household act) →
    ((household : ℕ) → IsInOrder (own_in known household)) → record_of known (Command.Household act) ≡ Some r → (done : HouseholdChange) → act.change ≡ done →
    IsMade (own_in known act.household) done r
is_made known most today act r free orders is (HouseholdChange.Resume resume) resumes =
    has_assistance (matter_of known (Command.Household act)) r is (where_tested _ _ (rw resumes refl) free.no_assistance)
is_made known most today act r free orders is (HouseholdChange.Correct correct) does =
    let headed : IsHeaded known (Command.Household act) r = made_is_headed known (Command.Household act) r is in
    corrects_one known act.household correct.target correct.from headed.heading r headed.under (ap (λ (done : HouseholdChange). heading_in (changing known act done)) (sym does) ∙ headed.is_its)
is_made known most today act r free orders is (HouseholdChange.MoveOut move_out) does =
    let its = moved_out known act move_out r does is in
    let own : r.household ≡ act.household = ap (λ (r : Record). r.household) its in
    subst (λ (household : ℕ). EndsWith (own_in known household) move_out.last r) own
    (ends_with known most today (Command.Household act) r free is (orders r.household) (ap (λ (r : Record). is_move_out r.kind) its) (ap (λ (r : Record). r.corrects) its)
    move_out.last (rw own (ap (λ (r : Record). r.number) its)) (ap (λ (r : Record). r.from) its) (ap (λ (r : Record). r.assistance) its))
is_made known most today act r free orders is done does = tt

meets : (known : Known) (most : ℕ) (rows : Batch) (asked : Command) → Passed known most rows.act.day asked → ((household : ℕ) → IsInOrder (own_in known household)) →
    rows.made ≡ record_of known asked → MeetsTerms known rows asked
meets known most rows (Command.Admit admit) free orders made =
    rw made (IfSome-each (λ r. 0 < r.assistance) (record_of known (Command.Admit admit)) (λ r is.
    has_assistance (matter_of known (Command.Admit admit)) r is free.no_assistance))
meets known most rows (Command.Household act) free orders made = record {
  seen = sees_all (own_in known act.household) act.seen (orders act.household).numbered.newest free.stale free.unseen;
  told = is_told known rows.act.day act act.change (days_in_range rows.act.day (matter_of known (Command.Household act)) free.day_range);
  its_record = rw made (IfSome-each (IsMade (own_in known act.household) act.change) (record_of known (Command.Household act)) (λ r is.
      is_made known most rows.act.day act r free orders is act.change refl));
}
meets known most rows _ free orders made = tt

pub acts_meet_their_terms : ActsMeetTheirTerms
acts_meet_their_terms capacity book rows reached appends =
    meets (known_of book) capacity.acts rows appends.call.command (passes capacity book rows appends) (own_in_order capacity book reached)
    (accepted capacity book rows appends).made
