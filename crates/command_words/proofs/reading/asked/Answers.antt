use Rattle.std.proofs.Common.{◌∙◌, ap, codes}
use Rattle.clap.specs.Walk.{rows_of}
use Rattle.clap.specs.Matches.{found_of}
use Rattle.clap.specs.Simple.{subcommand_rows_of}
use Rattle.clap.proofs.WalkLemmas.{first_value-rows}
use Rattle.command_words.specs.Command.{asked_by}
use Rattle.command_words.proofs.Found.{asked_rows, name_of_rows}
use Rattle.command_words.proofs.reading.asked.Goals as goal

pub returns-in-Some-clause-exact : goal.returns-in-Some-clause-exact
returns-in-Some-clause-exact c =
    let found = found_of c.in_ok-name.inner.now in
    let name = c.in_ok-name.name.now in
    c.subcommand_with.ensures.exact ∙ ap (asked_by name) (c.in-Some.ensures ∙ first_value-rows found (codes "value"))
    ∙ asked_rows (subcommand_rows_of c.args.matches.now) name (rows_of found) (c.in_ok-name.ensures.name ∙ name_of_rows c.args.matches.now) c.in_ok-name.ensures.rows

pub returns-in-None-clause-exact : goal.returns-in-None-clause-exact
returns-in-None-clause-exact c =
    let found = found_of c.in_ok-name.inner.now in
    let name = c.in_ok-name.name.now in
    c.subcommand_alone.ensures.exact ∙ ap (asked_by name) (c.in-None.ensures ∙ first_value-rows found (codes "value"))
    ∙ asked_rows (subcommand_rows_of c.args.matches.now) name (rows_of found) (c.in_ok-name.ensures.name ∙ name_of_rows c.args.matches.now) c.in_ok-name.ensures.rows
