use Rattle.office_links.proofs.Made.{made-unused}
use Rattle.office_links.proofs.inputs.listener_of_inputs.Goals as goal

pub new-requires : goal.new-requires
new-requires c = record { unused = rw c.loop-input.invariant (made-unused c.args.room c.loop-input.yielded) }
