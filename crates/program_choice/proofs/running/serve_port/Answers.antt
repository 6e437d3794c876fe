use Rattle.std.proofs.Common.{inl}
use Rattle.program_choice.proofs.running.serve_port.Goals as goal

-- no keeper was asked
pub returns-in-None-clause-stopped : goal.returns-in-None-clause-stopped
returns-in-None-clause-stopped g c = λ sound tells now holds after leaves. inl (sound tells now holds after leaves)
