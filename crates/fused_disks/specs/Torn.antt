-- What a torn file in memory remembers.
use Rattle.std.specs.Prelude.{List, length, map, reverse}
use Rattle.sqlite_disk.specs.History as H
use Rattle.fused_disks.specs.declared.torn.Step.{Step}
use Rattle.fused_disks.specs.declared.torn.Step.TheVariants.{Wrote, Cut}

abbrev pub step_of : Step → H.Step
step_of (Wrote at bytes) = H.wrote at (length bytes.items) bytes.items
step_of (Cut len) = H.resized len

-- the steps that a file remembers, the oldest first
abbrev pub steps_of : List Step → List H.Step
steps_of kept = reverse (map step_of kept)
