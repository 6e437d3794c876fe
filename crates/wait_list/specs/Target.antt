-- When an extremely low-income applicant is wanted (24 CFR 5.653 and Handbook 4350.3 REV-1, chapter 4; the counts and the
-- turns of the second method are own rules).
use Rattle.std.specs.Prelude.{◌*◌, ◌%◌, ◌&&◌, ◌||◌, ◌==◌, nat_lt, Bool}
use Rattle.wait_list.specs.declared.targets.Targets.{Targets}

-- fewer than 40 percent of the admissions that are expected in a year were of extremely low-income families
abbrev pub is_target_open : Targets → Bool
is_target_open targets = nat_lt (10 * targets.extremely) (4 * targets.expected)

-- by the first method each admission is such a family's turn, by the second every other one, from the first on
abbrev pub is_their_turn : Targets → Bool
is_their_turn targets = targets.method == 1 || (targets.method == 2 && targets.admitted % 2 == 0)

-- an extremely low-income applicant is wanted
abbrev pub wants_extremely_low : Targets → Bool
wants_extremely_low targets = is_target_open targets && is_their_turn targets
