-- What a desk says to a pass.
use Rattle.std.proofs.Common.{◌≡◌, ℕ, List, inr, refl, subst}
use Rattle.std.specs.Prelude.{Result, Ok, Err}
use Rattle.clerk_desk.specs.Below.office_step.declared.call.Call.{Call}
use Rattle.desk_history.specs.declared.views.PassView.{PassView}
use Rattle.http_messages.specs.declared.message.Message.{Message}
use Rattle.http_responses.specs.declared.body.Reply.{Reply}
use Rattle.http_front.specs.{Passes.AnswersPass, Passes.SaysBody, declared.draft.NoReply.NoReply}

-- an answer by one clock is one by a clock that is the same
pub answers_shown : {Shown : Type 0} (may_show : Shown → ℕ → Type 0) (clock its : Shown) (old : PassView) (message : Message) (reply : Reply) (new : PassView)
    → its ≡ clock → AnswersPass (may_show its) old message reply new → AnswersPass (may_show clock) old message reply new
answers_shown {Shown} may_show clock its old message reply new is answers = subst (λ (s : Shown). AnswersPass (may_show s) old message reply new) is answers

-- where memory runs out before a body is read, the desk isn't asked
pub unread : (shows : ℕ → Type 0) (read : Result Call (List ℕ)) (pass : PassView) → SaysBody shows read pass pass (Err NoReply.NoMemory)
unread shows (Ok call) pass = inr (refl, refl)
unread shows (Err path) pass = (refl, tt)
