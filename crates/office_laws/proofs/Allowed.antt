-- No cause stood against an act when it was accepted.
use Rattle.office_laws.proofs.Words.{◌≤◌, arith, last_office_day, matter_of, known_of}
use Rattle.office_step.proofs.Exactly.Acceptance.{refusal_is_plain}
use Rattle.office_laws.specs.Allowed.{ActsAreAllowed}
use Rattle.office_laws.proofs.{Inversion.accepted, AllSound.day_is_lived, AllSound.reached_books_are_sound}

pub acts_are_allowed : ActsAreAllowed
acts_are_allowed capacity book rows reached appends =
    let own = accepted capacity book rows appends in
    let by : rows.act.day ≤ last_office_day = omega (arith, own.day, day_is_lived capacity book reached rows.act.day) in
    (refusal_is_plain capacity.acts rows.act.day (matter_of (known_of book) appends.call.command)
    (reached_books_are_sound capacity book reached appends.call.command) by).none.0 own.is_allowed
