use Rattle.facts_core.specs.Facts.{facts_fields_at}
use Rattle.facts_core.proofs.facts.fields_of.Goals as goal

pub returns : goal.returns
unfolding facts_fields_at
returns c =
    simp (c.in_ok-members.ensures, c.in_ok-incomes.ensures, c.in_ok-assets.ensures, c.in_ok-disposals.ensures, c.in_ok-care_work.ensures, c.in_ok-care_school.ensures, c.in_ok-disability.ensures, c.in_ok-medical.ensures, c.in_ok-welfare.ensures, c.in_ok-exempt.ensures)
