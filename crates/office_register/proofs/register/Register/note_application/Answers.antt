use Rattle.office_register.proofs.Words.{◌≡◌, ◌+◌, refl, arith, length, application_by, applying, known_in}
use Rattle.office_register.proofs.{Lists.unchanged, Sound.sound_application, Standing.few, Standing.unlisted, Reviewed.reviewed_alike}
use Rattle.office_register.proofs.register.Register.note_application.Goals as goal

pub push-requires-clause-number : goal.push-requires-clause-number
push-requires-clause-number c =
    unlisted c.self.inside.list.applicants (c.len.result + 1) (length c.self.inside.applications.items) (omega arith) c.self.invariant.sound.applicants.numbers

pub invariant_of-self : goal.invariant_of-self
invariant_of-self c =
    let long : c.len.result ≡ length c.self.inside.applications.items = omega arith in
    rw (c.push.ensures.applicants, c.push_reserved.ensures.items, c.push_reserved-2.ensures.items, c.rank_by.ensures, long)
    (record {
      sound = sound_application (known_in c.self.inside) c.self.invariant.sound (few (rw (← c.self.view_is) at c.requires.accepted))
          (application_by (c.self.inside.count + 1) c.args.apply) (applying (known_in c.self.inside) c.args.apply) refl refl;
      review = reviewed_alike (known_in c.self.inside) c.self.inside.reviewed c.self.invariant.review _ (omega arith) refl refl refl refl;
      yearly = c.self.invariant.yearly;
    })

pub returns : goal.returns
returns c =
    let long : c.len.result ≡ length c.self.inside.applications.items = omega arith in
    rw (c.push.ensures.applicants, c.push_reserved.ensures.items, c.push_reserved-2.ensures.items, c.rank_by.ensures, long, ← c.self.view_is) (simp unchanged)
