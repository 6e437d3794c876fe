-- How the parse enters a subcommand, or finds none.
use Rattle.std.proofs.Common.{◌≡◌, ◌∙◌, true, false, refl, sym, ap, ap₂, List, [], ◌∷◌, Option, Some, None, fold, find, option_map}
use Rattle.std.specs.Option.{is_some, option_map_or}
use Rattle.clap.specs.Walk.{Names, Text, Walk, answers_to, finished, idle, nothing_held, settled, subcommand_met, walk, walk_from, walked}
use Rattle.clap.specs.Simple.{App, Shape, built, entered, is_simple, label_of, names_of, rows_at, subcommand_of}
use Rattle.clap.specs.Kinds.{Kinds, or_else}
use Rattle.clap.specs.Faults.{check_fault, defaults_fault, entered_fault, fault_of, is_simple_and_free, level_fault, settle_fault, turn_fault, walk_fault}
use Rattle.clap.specs.declared.error.kind.ErrorKind.TheVariants as kind
use Rattle.clap.proofs.OnLiterals.{clap_on_literals}
use Rattle.clap.proofs.WalkLemmas.{walk_stopped}
use Rattle.clap.proofs.FaultLemmas.{stopped_fault}
use Rattle.command_words.specs.Command.{office_app}
use Rattle.command_words.proofs.Level.{IsPlain, turn_plain}

pub office_is_simple : is_simple office_app ≡ true
office_is_simple = refl

pub office_is_simple_and_free : is_simple_and_free office_app ≡ true
office_is_simple_and_free = refl

abbrev pub office : App
office = built office_app

abbrev pub office_names : Names
office_names = names_of office

abbrev start : Walk
start = walk_from nothing_held

abbrev stopped_at : Text → List Text → Walk
stopped_at name rest = record { held = nothing_held; waiting = idle; position = 1; is_trailing = false; stopped = Some (name, rest) }

-- the word is a subcommand's name, and that subcommand is s
pub record Enters (name : Text) (s : Shape) : Type 0 where
  pub step : walked [] office_names start name ≡ stopped_at name []
  pub turn : turn_fault office.top office_names start name ≡ []
  pub found : find (λ x. answers_to name (label_of x)) office.subs ≡ Some s

-- what the office's level finds wrong, by its walk's faults and its end
abbrev ends_by : Kinds → Walk → Kinds
ends_by faults end =
    or_else faults (or_else (entered_fault office end.stopped)
    (or_else (settle_fault [] false end.held) (or_else (defaults_fault (settled [] end.held).rows [])
    (check_fault office.top (finished [] end.held) (is_some (entered office end.stopped))))))

fault_by_walk : (words : List Text) → fault_of office_app words ≡ ends_by (walk_fault office.top office_names start words) (walk [] office_names nothing_held words)
fault_by_walk words = refl

walk_ends : (name : Text) (s : Shape) (rest : List Text) → Enters name s → walk [] office_names nothing_held (name ∷ rest) ≡ stopped_at name rest
walk_ends name s rest enters =
    ap (λ w. fold (walked [] office_names) w rest) enters.step ∙ sym (walk_stopped [] office_names start name [] rest)

walk_passes : (name : Text) (s : Shape) (rest : List Text) → Enters name s → walk_fault office.top office_names start (name ∷ rest) ≡ []
unfolding walk_fault
walk_passes name s rest enters =
    ap₂ (λ turn w. or_else turn (walk_fault office.top office_names w rest)) enters.turn enters.step
    ∙ stopped_fault office.top office_names start (name, []) rest

or_else_nil : (kinds : Kinds) → or_else kinds [] ≡ kinds
or_else_nil [] = refl
or_else_nil (k ∷ ks) = refl

-- nothing is wrong at the office's level once a subcommand was entered
stopped_ends : (name : Text) (s : Shape) (rest : List Text) → Enters name s → ends_by [] (stopped_at name rest) ≡ level_fault s [] nothing_held rest false []
unfolding defaults_fault
stopped_ends name s rest enters =
    ap (λ (o : Option Shape).
    or_else (option_map_or (λ x. level_fault x [] nothing_held rest false []) o [])
    (check_fault office.top [] (is_some (option_map (λ x. rows_at x rest) o)))) enters.found
    ∙ or_else_nil (level_fault s [] nothing_held rest false [])

pub enters_fault : (name : Text) (s : Shape) (rest : List Text) → Enters name s → fault_of office_app (name ∷ rest) ≡ level_fault s [] nothing_held rest false []
enters_fault name s rest enters =
    fault_by_walk (name ∷ rest) ∙ ap₂ ends_by (walk_passes name s rest enters) (walk_ends name s rest enters) ∙ stopped_ends name s rest enters

pub enters_rows : (name : Text) (s : Shape) (rest : List Text) → Enters name s → subcommand_of office_app (name ∷ rest) ≡ Some (rows_at s rest)
enters_rows name s rest enters =
    ap (λ (w : Walk). entered office w.stopped) (walk_ends name s rest enters) ∙ ap (option_map (λ x. rows_at x rest)) enters.found

-- ---- no subcommand

pub no_words : fault_of office_app [] ≡ kind.MissingSubcommand ∷ []
unfolding clap_on_literals
no_words = refl

pub unknown : (name : Text) (rest : List Text) → subcommand_met office_names idle name ≡ None → IsPlain name
    → fault_of office_app (name ∷ rest) ≡ kind.UnknownArgument ∷ kind.InvalidSubcommand ∷ []
unfolding walk_fault
unknown name rest none plain =
    ap (λ turn. ends_by (or_else turn (walk_fault office.top office_names (walked [] office_names start name) rest)) (walk [] office_names nothing_held (name ∷ rest)))
    (turn_plain office.top office_names nothing_held 1 name none plain)
