use Rattle.std.proofs.Common.{◌≡◌, drop, map, string_bytes}
use Rattle.std.specs.List.{list_any}
use Rattle.command_words.specs.Words.{begins_with_hyphen}
use Rattle.command_words.proofs.reading.has_hyphens.Given as goal

abbrev pub invariant-loop-word : goal.invariant-loop-word
invariant-loop-word l = list_any begins_with_hyphen (drop l.word-index (map string_bytes l.words)) ≡ list_any begins_with_hyphen (map string_bytes l.words)
