use Rattle.std.proofs.Common.{rules, tests}
use Rattle.std.proofs.lemmas.Iterator.Consumers.{map_from_collect}
use Rattle.std.proofs.lemmas.Iterator.Splits.{YieldsList-from_slice_split}
use Rattle.applicant_rows.specs.Applicants.{is_separator}
use Rattle.applicant_rows.proofs.preferences.parts_of.Goals as goal

pub returns : goal.returns
returns c =
    map_from_collect _ c.collect.ensures.ran
    (YieldsList-from_slice_split _ is_separator c.args.field.now c.split.ensures.rest c.split.ensures.done c.split.ensures.closure (λ x b q k. search (rules, tests)))
