use Rattle.std.proofs.Common.{◌∙◌, ◌≤◌, ap, sym, length, take, drop, arith, length-append}
use Rattle.std.proofs.lemmas.List.{length-take-le, take_rest}
use Rattle.office_io.proofs.Moves.{take-copied}
use Rattle.office_io.proofs.memory.MemorySourceSource.read.Goals as goal

pub returns-clause-bytes : goal.returns-clause-bytes
returns-clause-bytes c =
    let fits : c.min-count.result ≤ length c.args.buffer.now = omega (arith, c.min.ensures, c.min-count.ensures) in
    let sized = c.copy_from_slice.ensures.len ∙ length-take-le c.min-count.result c.args.buffer.now fits in
    let copied = c.copy_from_slice.ensures.after ∙ ap (take c.min-count.result) (take_rest c.deref.result.now c.self.inside.at)
    ∙ ap (λ xs. take c.min-count.result (drop c.self.inside.at xs)) c.deref.ensures.value in (
      omega arith,
      omega (arith, sized, length-append c.copy_from_slice.new.self (drop c.min-count.result c.args.buffer.now)),
      sym (ap (λ given. given.left) c.self.view_is) ∙ take-copied c.self.inside.bytes.items c.copy_from_slice.new.self _ c.self.inside.at c.min-count.result copied sized,
    )
