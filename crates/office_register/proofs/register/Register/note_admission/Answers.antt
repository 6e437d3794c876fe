use Rattle.office_register.proofs.Words.{◌≡◌, ap, refl, not, ◌==◌, append-nil, filter_agree, Applicant, applicant_name, Command}
use Rattle.list_laws.proofs.Options.{option_or-none}
use Rattle.office_register.proofs.{Lists.same_number, Next.accepted_new, Next.fits, Next.admission_makes}
use Rattle.office_register.proofs.register.Register.note_admission.Goals as goal

pub record_in-requires : goal.record_in-requires
record_in-requires c =
    rw c.requires.accepted.is_made
    (admission_makes c.args.self.now.known (rw (← c.self.view_is) c.self.invariant.sound.plan_act) c.args.admit c.args.made c.requires.accepted)

pub add_household-requires-clause-household : goal.add_household-requires-clause-household
add_household-requires-clause-household c =
    rw c.take_off.ensures.known (accepted_new c.args.self.now.known (Command.Admit c.args.admit) _ c.args.made c.record_in.result refl refl c.requires.accepted c.record_in.ensures).household_is

pub add_household-requires-clause-next : goal.add_household-requires-clause-next
add_household-requires-clause-next c =
    let is = (accepted_new c.args.self.now.known (Command.Admit c.args.admit) _ c.args.made c.record_in.result refl refl c.requires.accepted c.record_in.ensures).next in
    rw c.take_off.ensures.known (record { number = is.number; act = is.act; earlier = is.earlier })

pub add_household-requires-clause-eligible : goal.add_household-requires-clause-eligible
add_household-requires-clause-eligible c =
    fits c.args.self.now.known (Command.Admit c.args.admit) c.args.made c.record_in.result c.args.eligible (rw (← c.self.view_is) c.self.invariant.sound.members.all)
    c.requires.accepted c.record_in.ensures c.requires.eligible

pub returns : goal.returns
returns c =
    let named : c.unwrap.result ≡ applicant_name c.args.self.now.known.applications c.args.admit.applicant = cc in
    let taken_off = filter_agree (λ (a : Applicant). not (c.args.admit.applicant == a.number)) (λ (a : Applicant). not (a.number == c.args.admit.applicant))
    (λ (a : Applicant). ap not (same_number c.args.admit.applicant a.number)) c.args.self.now.known.waiting in
    rw (c.add_household.ensures, c.take_off.ensures.known, named, c.requires.eligible, c.record_in.ensures) (simp (append-nil, option_or-none, taken_off))
