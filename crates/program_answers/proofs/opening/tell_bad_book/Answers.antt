use Rattle.std.proofs.Common.{refl, inr}
use Rattle.program_answers.proofs.Serving.{keeps_itself}
use Rattle.program_answers.proofs.opening.tell_bad_book.Goals as goal

pub returns-in-Err : goal.returns-in-Err
returns-in-Err g c = λ left source keeper. inr (refl, record { held = keeps_itself (g.W.Sink.held c.args.sink.now); counts = refl })
