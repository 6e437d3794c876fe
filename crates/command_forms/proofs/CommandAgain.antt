-- Commands that are fit are read again from the texts that are written of them.
use Rattle.std.proofs.Common.{◌≡◌, ◌≢◌, true, List, Some, None, ap, refl, sym, ◌∙◌, arith}
use Rattle.std.specs.Prelude.{ℕ, option_and_then}
use Rattle.std.proofs.lemmas.Slice.Eq.{bytes_eq-Decides}
use Rattle.book_rows.specs.{declared.command.Command.Command, Fit.is_fit}
use Rattle.command_forms.specs.Holdable.{IsHoldable}
use Rattle.command_forms.specs.Commands.{command_at, command_data, body_of, accepted, only_own, command_in, is_same_command}
use Rattle.json_form.proofs.Plain.{read_compact}
use Rattle.command_forms.proofs.CommandStands.{command_stands}

pub body_again : (asked : Command) → is_fit asked ≡ true → IsHoldable asked → command_in (body_of asked) ≡ Some asked
body_again asked fit h =
    let body = body_of asked in
    let stands = command_stands asked fit h in
    let own : only_own body asked ≡ Some asked = rw ((bytes_eq-Decides body body).1 refl) refl in
    ap (λ d. option_and_then (only_own body) (option_and_then (λ d. accepted (command_at d)) d)) (read_compact 4 (command_data asked) (omega arith) stands.plain)
    ∙ ap (λ r. option_and_then (only_own body) (accepted r)) stands.again
    ∙ own

pub same_again : (asked other : Command) → is_fit asked ≡ true → IsHoldable asked → is_fit other ≡ true → IsHoldable other → is_same_command asked other ≡ true → asked ≡ other
same_again asked other fit h fit_other h_other same =
    let bodies : body_of asked ≡ body_of other = (bytes_eq-Decides (body_of asked) (body_of other)).0 same in
    let found : Some asked ≡ Some other = sym (body_again asked fit h) ∙ ap command_in bodies ∙ body_again other fit_other h_other in
    cc

pub of_no_command : (body : List ℕ) → command_in body ≡ None → (asked : Command) → is_fit asked ≡ true → IsHoldable asked → body_of asked ≢ body
of_no_command body none asked fit h same =
    let found : command_in body ≡ Some asked = ap command_in (sym same) ∙ body_again asked fit h in
    cc
