use Rattle.wait_list.proofs.Words.{◌∙◌, ap, sym, asked_by, ◌&&◌, Bool, Applicant, is_candidate, is_extremely_low, first_of, filter}
use Rattle.row_choice.proofs.LatestLemmas.{filter-filter}
use Rattle.wait_list.specs.Group.{is_of}
use Rattle.wait_list.proofs.Standing.{found_is_first}
use Rattle.wait_list.proofs.next.first_extremely_low.Goals as goal

pub returns : goal.returns
returns c =
    let asked = asked_by c.args.ask.now in
    let ranked = c.args.ranked.now in
    let of : Applicant → Bool = λ applicant. is_candidate asked applicant && is_of asked c.args.group applicant in
    c.find_extremely_low.ensures
    ∙ found_is_first (λ applicant. of applicant && is_extremely_low asked applicant) ranked c.requires.in_order
    ∙ ap first_of (sym (filter-filter (is_extremely_low asked) of ranked))
    ∙ ap (λ candidates. first_of (filter (is_extremely_low asked) candidates)) (sym (filter-filter (is_of asked c.args.group) (is_candidate asked) ranked))
