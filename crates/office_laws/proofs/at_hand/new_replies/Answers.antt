use Rattle.office_laws.proofs.Words.{ap, refl, Made}
use Rattle.office_laws.proofs.Replies.{made_is}
use Rattle.office_laws.proofs.at_hand.new_replies.Goals as goal

pub returns : goal.returns
returns c capacity book rows reached appends =
    rw appends.read (ap (λ (made : Made). record { act = rows.act.n; day = rows.act.day; made = made })
    (made_is capacity book rows reached appends appends.call.command refl))
