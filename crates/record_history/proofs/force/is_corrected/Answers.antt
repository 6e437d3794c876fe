use Rattle.record_history.proofs.Words.{◌∙◌, sym, ap}
use Rattle.record_history.proofs.CorrectedLemmas.{is_by, corrected_as_of}
use Rattle.record_history.proofs.force.is_corrected.Goals as goal

pub returns-in-Some : goal.returns-in-Some
returns-in-Some c =
    ap (is_by c.args.act) (sym c.in-Some.is ∙ c.corrected_by.ensures)
    ∙ corrected_as_of c.args.own.now.records.items c.args.number c.args.act c.requires.indexed.kept.acts

pub returns-in-None : goal.returns-in-None
returns-in-None c =
    ap (is_by c.args.act) (sym c.in-None.is ∙ c.corrected_by.ensures)
    ∙ corrected_as_of c.args.own.now.records.items c.args.number c.args.act c.requires.indexed.kept.acts
