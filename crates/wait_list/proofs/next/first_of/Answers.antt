use Rattle.wait_list.proofs.Words.{◌∙◌, ap, sym, asked_by, ◌&&◌, is_candidate, first_of}
use Rattle.row_choice.proofs.LatestLemmas.{filter-filter}
use Rattle.wait_list.specs.Group.{is_of}
use Rattle.wait_list.proofs.Standing.{found_is_first}
use Rattle.wait_list.proofs.next.first_of.Goals as goal

pub returns : goal.returns
returns c =
    let asked = asked_by c.args.ask.now in
    c.find_candidate.ensures
    ∙ found_is_first (λ applicant. is_candidate asked applicant && is_of asked c.args.group applicant) c.args.ranked.now c.requires.in_order
    ∙ ap first_of (sym (filter-filter (is_of asked c.args.group) (is_candidate asked) c.args.ranked.now))
