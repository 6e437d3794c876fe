use Rattle.std.proofs.Common.{refl}
use Rattle.office_register.proofs.Lists.{unranked}
use Rattle.office_register.proofs.register.rank_by.Goals as goal

pub returns-in-None : goal.returns-in-None
returns-in-None c = rw (c.in-None.is, unranked c.args.preferences.now) refl
