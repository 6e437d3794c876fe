use Rattle.office_register.proofs.Words.{◌∙◌, sym, ap, refl}
use Rattle.office_refusals.specs.Basis.{basis_by}
use Rattle.office_refusals.proofs.Below.office_step.Members.{few_members}
use Rattle.office_register.proofs.Standing.{passes}
use Rattle.office_register.proofs.register.Register.eligible_of_next.Goals as goal

pub eligible_members-requires : goal.eligible_members-requires
eligible_members-requires c = record {
  few = few_members c.args.self.now.known c.args.command.now c.in-Facts.facts.now (passes c.requires.accepted).facts_rule
      (sym c.basis_of.ensures ∙ ap basis_by c.in-Facts.is);
}
