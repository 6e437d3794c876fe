-- The words for the kinds of commands.
use Rattle.std.specs.Prelude.{ℕ, List, ◌∷◌, codes}
use Rattle.book_rows.specs.declared.command.Command.{Command}
use Rattle.command_forms.specs.{declared.kind.Kind.Kind, Changes.change_kinds, Changes.change_word}

abbrev pub kinds : List (List ℕ × Kind)
kinds =
    (codes "plan", Kind.Plan) ∷ (codes "unit", Kind.Unit) ∷ (codes "rents", Kind.Rents) ∷ (codes "limits", Kind.Limits)
    ∷ (codes "apply", Kind.Apply) ∷ (codes "remove", Kind.Remove) ∷ (codes "start", Kind.Start) ∷ (codes "admit", Kind.Admit)
    ∷ (codes "ask_transfer", Kind.AskTransfer) ∷ (codes "close", Kind.Close) ∷ change_kinds

-- the word for the kind of a command
abbrev pub word_of : Command → List ℕ
word_of (Command.Plan plan) = codes "plan"
word_of (Command.Unit unit) = codes "unit"
word_of (Command.Rents rents) = codes "rents"
word_of (Command.Limits limits) = codes "limits"
word_of (Command.Apply apply) = codes "apply"
word_of (Command.Remove remove) = codes "remove"
word_of (Command.Start start) = codes "start"
word_of (Command.Admit admit) = codes "admit"
word_of (Command.AskTransfer ask) = codes "ask_transfer"
word_of (Command.Household act) = change_word act.change
word_of (Command.Close close) = codes "close"
