use Rattle.wait_list.proofs.Words.{◌≡◌, ◌&&◌, Bool, Applicant, asked_by, is_candidate}
use Rattle.std.specs.Prelude.{drop, find}
use Rattle.wait_list.specs.Group.{is_of}
use Rattle.wait_list.proofs.next.find_candidate.Given as goal

abbrev pub invariant-loop-applicant : goal.invariant-loop-applicant
invariant-loop-applicant l =
    let passes : Applicant → Bool = λ applicant. is_candidate (asked_by l.ask) applicant && is_of (asked_by l.ask) l.group applicant in
    find passes (drop l.applicant-index l.ranked) ≡ find passes l.ranked
