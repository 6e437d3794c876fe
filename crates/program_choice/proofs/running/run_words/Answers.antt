use Rattle.std.proofs.Common.{map, string_bytes, sym, ◌∙◌}
use Rattle.program_choice.proofs.Workers.{workers_within}
use Rattle.program_choice.proofs.running.run_words.Goals as goal

pub serve_port-requires-clause-workers : goal.serve_port-requires-clause-workers
serve_port-requires-clause-workers g c κs within =
    workers_within (map string_bytes c.args.words.now) c.in-Some.serve (sym c.serve_words.ensures ∙ c.in-Some.is)
