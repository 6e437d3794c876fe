-- What is known of a text that a command was read of.
use Rattle.std.specs.Prelude.{ℕ, ◌≡◌, List, Some}
use Rattle.book_rows.specs.declared.command.Command.{Command}
use Rattle.command_forms.specs.Commands.{body_of, command_in}

-- it is the command's text, and is read as that command
pub record IsTextOf (asked : Command) (body : List ℕ) : Type 0 where
  pub is : body ≡ body_of asked
  pub reads : command_in body ≡ Some asked
