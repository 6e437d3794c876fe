-- What the reply to an act tells of its record.
use Rattle.std.proofs.Common.{refl, arith}
use Rattle.payment_rules.specs.Payment.{tenant_rent_of, reimbursement_of}
use Rattle.office_step.specs.plain.Replies.{CertifiedIsPlain}

pub certified_is_plain : CertifiedIsPlain
certified_is_plain r within = record {
  tenant_rent = tenant_rent_of r.assistance r.rents;
  reimbursement = reimbursement_of r.assistance r.rents;
  is = refl;
  covered = omega (arith, within);
  one_way = λ pays. omega (arith, pays);
}
