use Rattle.store_write.proofs.inserting.insert_made.Goals as goal

pub returns-in-Some-clause-fits : goal.returns-in-Some-clause-fits
returns-in-Some-clause-fits g c = rw c.in-Some.is (c.insert_record.ensures.fits, tt)
