-- The program's command as `clap` sees it, and what its matches ask.
use Rattle.std.specs.Prelude.{true, Option, Some, None, List, [], ◌∷◌, codes}
use Rattle.clap.specs.Words.{App, Row, Shape, Text, first_of, new_app, new_rule, with_subcommand}
use Rattle.command_words.specs.{declared.subcommand.Subcommand.Subcommand, Words.subcommand_alone, Words.subcommand_with}

-- a subcommand without a value
abbrev pub alone_shape : Text → Shape
alone_shape name = (new_app name).top

-- and one with a value, which it must have
abbrev pub valued_shape : Text → Shape
valued_shape name = record (alone_shape name) { rules = record (new_rule (codes "value")) { required = true } ∷ [] }

-- the command without its subcommands: no program's name stands before the words, there is no help and no version, and a
-- subcommand must be named
abbrev pub program_app : App
program_app = record {
  top = record (alone_shape (codes "office")) {
    no_binary_name = true;
    disable_help_flag = true;
    disable_help_subcommand = true;
    disable_version_flag = true;
    subcommand_required = true;
  };
  subs = [];
}

abbrev pub with_alone : Text → App → App
with_alone name app = with_subcommand app (alone_shape name)

abbrev pub with_valued : Text → App → App
with_valued name app = with_subcommand app (valued_shape name)

abbrev pub office_app : App
office_app =
    with_valued (codes "trial") (with_valued (codes "make") (with_valued (codes "targets") (with_valued (codes "due")
    (with_valued (codes "import") (with_alone (codes "export") (with_valued (codes "voucher")
    (with_alone (codes "batch") (with_alone (codes "assess") program_app))))))))

-- what the name asks, with the value if there is one
abbrev pub asked_by : Text → Option Text → Option Subcommand
asked_by name None = subcommand_alone name
asked_by name (Some value) = subcommand_with name value

-- what the subcommand asks that was entered
abbrev pub asked : Option (Text × List Row) → Option Subcommand
asked None = None
asked (Some p) = asked_by p.0 (first_of (codes "value") p.1)
