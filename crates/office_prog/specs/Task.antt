-- What the words of the command line ask.
use Rattle.std.specs.Prelude.{◌≤◌, ⊤, Bool, true, false, Option, Some, List, map, String, string_bytes}
use Rattle.std.specs.declared.alloc.Global.{Global}
use Rattle.std.specs.Option.{option_and_then}
use Rattle.command_words.specs.{declared.subcommand.Subcommand.Subcommand, Words.subcommand_in}
use Rattle.office_prog.specs.declared.{task.Task.Task, report.Report.Report}

abbrev pub built : Subcommand → Option Task
built Subcommand.Assess = Some Task.Assess
built Subcommand.Batch = Some Task.Batch
built Subcommand.Export = Some (Task.Report Report.Export)
built (Subcommand.Due day) = Some (Task.Report (Report.Due day))
built (Subcommand.Targets day) = Some (Task.Report (Report.Targets day))
built (Subcommand.Import clerk) = Some (Task.Import clerk)
built (Subcommand.Voucher month) = Some (Task.Report (Report.Voucher month))
built (Subcommand.Make households) = Some (Task.Make households)
built (Subcommand.Trial households) = Some (Task.Trial households)

-- what the words ask
abbrev pub task_in : List (String Global) → Option Task
task_in words = option_and_then built (subcommand_in (map string_bytes words))

-- where a clerk is asked for, the number is a clerk's
abbrev pub HasClerk : Option Task → Type 0
HasClerk (Some (Task.Import clerk)) = (1 ≤ clerk) × (clerk ≤ 9999)
HasClerk _ = ⊤

-- what they ask is about the keeper's book
abbrev pub asks_keeper : Option Task → Bool
asks_keeper (Some Task.Batch) = true
asks_keeper (Some (Task.Report _)) = true
asks_keeper (Some (Task.Import _)) = true
asks_keeper _ = false
