-- When somebody else is next for a unit, in plain facts alone.
use Rattle.std.proofs.Common.{◌≡◌, ◌∙◌, sym, refl, subst, ℕ, Bool, true, false, Option, Some, None}
use Rattle.std.proofs.Common.{subst₂}
use Rattle.std.specs.Prelude.{◌↔◌, Contains}
use Rattle.rent_table.specs.{declared.plan.Plan.Plan, declared.rows.Unit.Unit as UnitRow, Table.limits_on}
use Rattle.record_history.specs.declared.records.Record.{Record}
use Rattle.wait_list.specs.{declared.targets.Targets.Targets, Next.Asked, RightfulNext.IsRightAnswer, Wanted.IsWanted}
use Rattle.wait_list.proofs.WantedLaw.{wanted_is_plain}
use Rattle.office_step.specs.{Candidates.asked_of, Candidates.targets_of, Known.Known, Known.known_of, Matter.Matter, Matter.matter_of}
use Rattle.office_step.specs.plain.Turns.{PassesOver}
use Rattle.office_step.proofs.Exactly.Turns.{not_next_is_plain}
use Rattle.office_laws.specs.{Movers.IsAsked, Targets.AreCounted, Turns.TakesAnother, Turns.TurnsArePlain}
use Rattle.office_laws.proofs.{AllSound.reached_books_are_sound, Counts.same_count, Counts.same_length, Movers.asked_is_plain, Targets.targets_are_counted}

same_option : {X : Type 0} (a b : Option X) → ((x : X) → (a ≡ Some x) ↔ (b ≡ Some x)) → a ≡ b
same_option None None each = refl
same_option (Some x) b each = sym ((each x).0 refl)
same_option None (Some x) each = (each x).1 refl

both_ways : {A B C : Type 0} → A ↔ C → B ↔ C → A ↔ B
both_ways one two = (λ a. two.1 (one.0 a), λ b. one.1 (two.0 b))

same_truth : (a b : Bool) → (a ≡ true) ↔ (b ≡ true) → a ≡ b
same_truth true b each = sym (each.0 refl)
same_truth false true each = each.1 refl
same_truth false false each = refl

-- what is asked is one thing
one_asked : (known : Known) (plan : Plan) (unit : UnitRow) (day : ℕ) (one other : Asked) → IsAsked known plan unit day one → IsAsked known plan unit day other →
    one.wanted ≡ other.wanted → one ≡ other
one_asked known plan unit day one other is that wanted =
    let its_unit : one.unit ≡ other.unit = is.of_unit ∙ sym that.of_unit in
    let its_plan : one.plan ≡ other.plan = is.by_plan ∙ sym that.by_plan in
    let limits : one.limits ≡ other.limits = same_option one.limits other.limits (λ row. both_ways (is.limits row) (that.limits row)) in
    let needing : one.needing ≡ other.needing = same_option one.needing other.needing (λ household. both_ways (is.needing.some household) (that.needing.some household)) in
    let rest : one.other ≡ other.other = same_option one.other other.other (λ household. both_ways (is.other.some household) (that.other.some household)) in
    λ i. record { unit = its_unit i; plan = its_plan i; limits = limits i; wanted = wanted i; needing = needing i; other = rest i }

-- and so are the counts of the fiscal year
one_count : (known : Known) (plan : Plan) (day : ℕ) (one other : Targets) → AreCounted known plan day one → AreCounted known plan day other → one ≡ other
one_count known plan day one other is that =
    let there : (r : Record) → Contains is.admissions r → Contains that.admissions r = λ r held. (that.just_those r).1 ((is.just_those r).0 held) in
    let back : (r : Record) → Contains that.admissions r → Contains is.admissions r = λ r held. (is.just_those r).1 ((that.just_those r).0 held) in
    let method : one.method ≡ other.method = is.method ∙ sym that.method in
    let expected : one.expected ≡ other.expected = is.expected ∙ sym that.expected in
    let admitted : one.admitted ≡ other.admitted =
    is.admitted ∙ same_length (λ (r : Record). r.act) is.admissions that.admissions is.once that.once there back ∙ sym that.admitted in
    let extremely : one.extremely ≡ other.extremely =
    is.extremely ∙ same_count (λ (r : Record). r.act) is.admissions that.admissions is.once that.once there back (λ (r : Record). r.extremely) ∙ sym that.extremely in
    λ i. record { method = method i; expected = expected i; admitted = admitted i; extremely = extremely i }

pub turns_are_plain : TurnsArePlain
turns_are_plain capacity book reached command refusal =
    let about : Matter = matter_of (known_of book) command in
    let sound = reached_books_are_sound capacity book reached command in
    let plain = not_next_is_plain about refusal sound.numbered sound.waiting in (
      λ is. (let at : PassesOver about refusal = plain.0 is in record {
        plan = at.plan;
        moves = at.moves;
        unit = at.unit;
        asked = asked_of at.plan at.unit at.moves.from (limits_on (known_of book).limits at.moves.from) (known_of book).requests (known_of book).households;
        targets = targets_of at.plan at.moves.from (known_of book).households;
        next = at.next;
        told = at.told;
        planned = at.planned;
        moves_in = at.moves_in;
        held = at.held;
        numbered = at.numbered;
        is_asked = asked_is_plain capacity book reached at.plan at.unit at.moves.from;
        counted = targets_are_counted capacity book reached at.plan at.moves.from at.planned;
        wanted = wanted_is_plain (targets_of at.plan at.moves.from (known_of book).households);
        rightly = at.rightly;
        another = at.another;
      }),
      λ at. plain.1 (record {
        plan = at.plan;
        moves = at.moves;
        unit = at.unit;
        next = at.next;
        told = at.told;
        planned = at.planned;
        moves_in = at.moves_in;
        held = at.held;
        numbered = at.numbered;
        rightly = as_asked at;
        another = at.another;
      }),
    )
  where
    as_asked : (at : TakesAnother (matter_of (known_of book) command) refusal) →
        IsRightAnswer (targets_of at.plan at.moves.from (known_of book).households)
        (asked_of at.plan at.unit at.moves.from (limits_on (known_of book).limits at.moves.from) (known_of book).requests (known_of book).households) (known_of book).waiting at.next
    as_asked at =
        let targets : Targets = targets_of at.plan at.moves.from (known_of book).households in
        let asked : Asked = asked_of at.plan at.unit at.moves.from (limits_on (known_of book).limits at.moves.from) (known_of book).requests (known_of book).households in
        let counted = one_count (known_of book) at.plan at.moves.from at.targets targets at.counted (targets_are_counted capacity book reached at.plan at.moves.from at.planned) in
        let wanted : at.asked.wanted ≡ asked.wanted =
        same_truth at.asked.wanted asked.wanted (both_ways at.wanted (subst (λ (t : Targets). (asked.wanted ≡ true) ↔ IsWanted t) (sym counted) (wanted_is_plain targets))) in
        subst₂ (λ (t : Targets) (a : Asked). IsRightAnswer t a (known_of book).waiting at.next) counted
        (one_asked (known_of book) at.plan at.unit at.moves.from at.asked asked at.is_asked (asked_is_plain capacity book reached at.plan at.unit at.moves.from) wanted) at.rightly
