-- What the matches of a parse ask.
use Rattle.std.proofs.Common.{◌≡◌, refl, sym, ap₂, List, Option, Some, None, codes, option_map}
use Rattle.std.specs.Prelude.{Box}
use Rattle.std.specs.Box.{box_value}
use Rattle.std.proofs.lemmas.Option.{none-some, same_Some}
use Rattle.clap.specs.Walk.{Row, Text, first_of}
use Rattle.clap.specs.Matches.{subcommand_name_of}
use Rattle.clap.specs.Simple.{subcommand_rows, subcommand_rows_of}
use Rattle.clap.specs.declared.parser.matches.ArgMatches.{ArgMatches}
use Rattle.clap.specs.declared.parser.matches.ArgMatches.TheViews.{out-ArgMatches, out-SubCommand}
use Rattle.clap.specs.declared.parser.matches.SubCommand.{SubCommand}
use Rattle.command_words.specs.Command.{asked, asked_by}

-- the subcommand's name, seen alone or beside its rows
name_of : {Z : Type 0} (o : Option (Box SubCommand Z)) → option_map (λ b. (out-SubCommand (box_value b)).name.now) o ≡ option_map (λ p. p.0) (subcommand_rows o)
name_of None = refl
name_of (Some b) = refl

pub name_of_rows : (m : ArgMatches) → subcommand_name_of m ≡ option_map (λ p. p.0) (subcommand_rows_of m)
name_of_rows m = name_of (out-ArgMatches m).subcommand

pub asked_rows : (o : Option (Text × List Row)) (name : Text) (rows : List Row) → Some name ≡ option_map (λ p. p.0) o → Some rows ≡ option_map (λ p. p.1) o
    → asked_by name (first_of (codes "value") rows) ≡ asked o
asked_rows None name rows e f = absurd (none-some name (sym e))
asked_rows (Some p) name rows e f = ap₂ (λ (n : Text) (r : List Row). asked_by n (first_of (codes "value") r)) (same_Some name p.0 e) (same_Some rows p.1 f)

pub asked_none : (o : Option (Text × List Row)) → None ≡ option_map (λ p. p.0) o → None ≡ asked o
asked_none None e = refl
asked_none (Some p) e = absurd (none-some p.0 e)
