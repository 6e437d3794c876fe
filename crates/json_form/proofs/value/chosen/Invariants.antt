use Rattle.std.proofs.Common.{◌≡◌, map, drop}
use Rattle.json_form.specs.Form.{chosen}
use Rattle.json_form.proofs.value.chosen.Given as goal

-- none of the words so far is the text
abbrev pub invariant-loop-word : goal.invariant-loop-word
invariant-loop-word g l =
    chosen (map (λ choice. (choice.0.now, choice.1)) (drop l.word-index l.choices)) l.text ≡ chosen (map (λ choice. (choice.0.now, choice.1)) l.choices) l.text
