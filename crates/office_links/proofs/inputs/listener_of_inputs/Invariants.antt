use Rattle.std.proofs.Common.{◌≡◌, map}
use Rattle.office_links.specs.Memory.{link_of}
use Rattle.office_links.proofs.inputs.listener_of_inputs.Given as goal

abbrev pub invariant-loop-input : goal.invariant-loop-input
invariant-loop-input l = l.links.items ≡ map (link_of l.room) l.yielded
