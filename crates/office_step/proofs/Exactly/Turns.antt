-- 18: who is next.
use Rattle.std.proofs.Common.{◌≡◌, ◌≢◌, ◌∙◌, sym, ap, refl, subst, ℕ, ◌<◌, ◌≤◌, ◌⊎◌, inl, inr, arith, true, false, List, Option, Some, None}
use Rattle.std.specs.Option.{option_map_or}
use Rattle.std.proofs.lemmas.{Bool.false≢true, Bool.cases_Bool, Bool.ne_eqb}
use Rattle.rent_table.specs.{Table.limits_on}
use Rattle.wait_list.specs.{declared.applicant.Applicant.Applicant, declared.ask.Candidate.Candidate, declared.targets.Targets.Targets, Next.Asked, Waiting.ActsRise}
use Rattle.wait_list.specs.RightfulNext.{IsOfGroup, IsAhead, NobodyIsNext, FamilyIsNext, MoverIsNext, IsRightAnswer}
use Rattle.wait_list.proofs.PlainNext.{next_is_plain}
use Rattle.office_step.specs.{declared.refusal.Refusal.Refusal, Candidates.asked_of, Candidates.targets_of, Against.Moving, Against.moving_of, Against.is_same_candidate, Against.next_for, Against.other_next}
use Rattle.office_step.proofs.Exactly.{Options.refused_unless-some, Options.refused_unless-from, Options.and_then-some, Options.and_then-from, Options.risen_key, Numbered.found_by_number, Units.is_move, Units.moving}
use Rattle.office_step.specs.plain.Turns.{NotNextIsPlain}

-- ---- there is one right answer

module _ (targets : Targets) (asked : Asked) (applicants : List Applicant) (rise : ActsRise applicants) where
  -- of two families that are next both are of one group
  one_group : (one other : Applicant) → FamilyIsNext targets asked applicants one → FamilyIsNext targets asked applicants other → IsOfGroup asked one other
  one_group one other is that accessible = elim (cases_Bool one.accessible) [
    | inl needs ↦ elim (cases_Bool other.accessible) [
      | inl too ↦ too ∙ sym needs
      | inr not ↦ absurd (false≢true (sym (that.no_family_in_need not accessible one is.listed is.admitted) ∙ needs))
    ]
    | inr not ↦ is.no_family_in_need not accessible other that.listed that.admitted ∙ sym not
  ]

  goes_ahead : (one other : Applicant) → FamilyIsNext targets asked applicants one → FamilyIsNext targets asked applicants other → IsAhead one other
  goes_ahead one other is that =
      is.ahead other that.listed that.admitted (one_group one other is that)
      (λ wanted low. that.wanted wanted one is.listed is.admitted (one_group other one that is) low)

  one_family : (one other : Applicant) → FamilyIsNext targets asked applicants one → FamilyIsNext targets asked applicants other → one ≡ other
  one_family one other is that =
      risen_key (λ (a : Applicant). a.act) applicants rise one other is.listed that.listed (same_act one.rank one.act other.rank other.act (goes_ahead one other is that) (goes_ahead other one that is))
    where
      same_act : (rank act other_rank other_act : ℕ) → (rank < other_rank) ⊎ ((rank ≡ other_rank) × (act ≤ other_act)) →
          (other_rank < rank) ⊎ ((other_rank ≡ rank) × (other_act ≤ act)) → act ≡ other_act
      same_act rank act other_rank other_act (inl less) (inl more) = absurd (omega (arith, less, more))
      same_act rank act other_rank other_act (inl less) (inr same) = absurd (omega (arith, less, same.0))
      same_act rank act other_rank other_act (inr same) (inl more) = absurd (omega (arith, same.0, more))
      same_act rank act other_rank other_act (inr same) (inr too) = omega (arith, same.1, too.1)

  -- nobody and a family, nobody and a mover, or a family and a mover aren't both right
  no_family : NobodyIsNext asked applicants → (next : Applicant) → ¬ FamilyIsNext targets asked applicants next
  no_family nobody next is = nobody.no_family next is.listed is.admitted

  no_mover : (household : ℕ) → NobodyIsNext asked applicants → ¬ MoverIsNext asked applicants household
  no_mover household nobody (inl needing) = let none = nobody.no_mover_in_need in cc
  no_mover household nobody (inr (other, _, _)) = let none = nobody.no_other_mover in cc

  not_both : (next : Applicant) (household : ℕ) → FamilyIsNext targets asked applicants next → ¬ MoverIsNext asked applicants household
  not_both next household is (inl needing) = let none = is.no_mover_in_need in cc
  not_both next household is (inr (other, no_needing, none_in_need)) =
      let none = is.no_other_mover (λ accessible. none_in_need accessible next is.listed is.admitted) in cc

  one_mover : (household other : ℕ) → MoverIsNext asked applicants household → MoverIsNext asked applicants other → household ≡ other
  one_mover household other (inl is) (inl that) = cc
  one_mover household other (inl is) (inr (_, no_needing, _)) = cc
  one_mover household other (inr (_, no_needing, _)) (inl that) = cc
  one_mover household other (inr (is, _, _)) (inr (that, _, _)) = cc

  pub one_answer : (next other : Option Candidate) → IsRightAnswer targets asked applicants next → IsRightAnswer targets asked applicants other → next ≡ other
  one_answer None None is that = refl
  one_answer None (Some (Candidate.Applicant number)) is (family, same, that) = absurd (no_family is family that)
  one_answer None (Some (Candidate.Household household)) is that = absurd (no_mover household is that)
  one_answer (Some (Candidate.Applicant number)) None (family, same, is) that = absurd (no_family that family is)
  one_answer (Some (Candidate.Applicant number)) (Some (Candidate.Applicant other)) (family, same, is) (next, too, that) =
      ap (λ (n : ℕ). Some (Candidate.Applicant n)) (sym same ∙ ap (λ (a : Applicant). a.number) (one_family family next is that) ∙ too)
  one_answer (Some (Candidate.Applicant number)) (Some (Candidate.Household household)) (family, same, is) that = absurd (not_both family household is that)
  one_answer (Some (Candidate.Household household)) None is that = absurd (no_mover household that is)
  one_answer (Some (Candidate.Household household)) (Some (Candidate.Applicant number)) is (family, same, that) = absurd (not_both family household that is)
  one_answer (Some (Candidate.Household household)) (Some (Candidate.Household other)) is that =
      ap (λ (n : ℕ). Some (Candidate.Household n)) (one_mover household other is that)

-- ---- the same candidate

is_other : (next : Option Candidate) (candidate : Candidate) → option_map_or (λ c. is_same_candidate c candidate) next false ≡ false → next ≢ Some candidate
is_other next candidate is same = false≢true (sym is ∙ ap (λ (o : Option Candidate). option_map_or (λ c. is_same_candidate c candidate) o false) same ∙ itself candidate)
  where
    itself : (candidate : Candidate) → is_same_candidate candidate candidate ≡ true
    itself (Candidate.Applicant number) = grind arith
    itself (Candidate.Household number) = grind arith

other_is : (next : Option Candidate) (candidate : Candidate) → next ≢ Some candidate → option_map_or (λ c. is_same_candidate c candidate) next false ≡ false
other_is None candidate other = refl
other_is (Some (Candidate.Applicant number)) (Candidate.Applicant other_number) other = ne_eqb number other_number (λ same. other (ap (λ (n : ℕ). Some (Candidate.Applicant n)) same))
other_is (Some (Candidate.Household number)) (Candidate.Household other_number) other = ne_eqb number other_number (λ same. other (ap (λ (n : ℕ). Some (Candidate.Household n)) same))
other_is (Some (Candidate.Applicant number)) (Candidate.Household other_number) other = refl
other_is (Some (Candidate.Household number)) (Candidate.Applicant other_number) other = refl

-- ---- 18

pub not_next_is_plain : NotNextIsPlain
not_next_is_plain about refusal numbered rise = (
  λ is. (let moves = and_then-some (λ (move : Moving). other_next (next_for about.known move) move.candidate) (moving_of about) refusal is in
      let move : Moving = moves.0 in
      let its = is_move about move moves.1 in
      let has = refused_unless-some (option_map_or (λ c. is_same_candidate c move.candidate) (next_for about.known move) false) (Refusal.NotNext (next_for about.known move)) refusal moves.2 in
      let there = (found_by_number about.known.units its.moves.unit move.unit numbered).0 its.at in record {
        plan = move.plan;
        moves = its.moves;
        unit = move.unit;
        next = next_for about.known move;
        told = has.1;
        planned = its.planned;
        moves_in = its.moves_in;
        held = there.0;
        numbered = there.1;
        rightly = subst (λ (day : ℕ). IsRightAnswer (targets_of move.plan day about.known.households)
            (asked_of move.plan move.unit day (limits_on about.known.limits day) about.known.requests about.known.households) about.known.waiting (next_for about.known move)) its.from_day
            (next_is_plain (targets_of move.plan move.from about.known.households)
            (asked_of move.plan move.unit move.from (limits_on about.known.limits move.from) about.known.requests about.known.households) about.known.waiting refl);
        another = λ same. is_other (next_for about.known move) move.candidate has.0 (same ∙ ap Some (sym its.candidate));
      }),
  λ at. (let there = (found_by_number about.known.units at.moves.unit at.unit numbered).1 (at.held, at.numbered) in
      let move : Moving = record { plan = at.plan; unit = at.unit; candidate = at.moves.candidate; from = at.moves.from } in
      let asked : Asked = asked_of at.plan at.unit at.moves.from (limits_on about.known.limits at.moves.from) about.known.requests about.known.households in
      let targets : Targets = targets_of at.plan at.moves.from about.known.households in
      let next : next_for about.known move ≡ at.next =
      one_answer targets asked about.known.waiting rise (next_for about.known move) at.next (next_is_plain targets asked about.known.waiting refl) at.rightly in
      and_then-from (λ (move : Moving). other_next (next_for about.known move) move.candidate) (moving_of about) move refusal (moving about move at.moves at.planned at.moves_in there refl refl)
      (ap (λ (o : Option Candidate). other_next o at.moves.candidate) next
      ∙ refused_unless-from (option_map_or (λ c. is_same_candidate c at.moves.candidate) at.next false) (Refusal.NotNext at.next) refusal (other_is at.next at.moves.candidate at.another) at.told)),
)
