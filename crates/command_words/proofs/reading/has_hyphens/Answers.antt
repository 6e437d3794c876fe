use Rattle.std.proofs.Common.{◌≡◌, ◌∙◌, ◌+◌, ◌||◌, suc, drop, sym, ap, arith}
use Rattle.std.specs.List.{list_any}
use Rattle.command_words.specs.Words.{begins_with_hyphen}
use Rattle.command_words.proofs.Hyphens.{one_more, texts_of}
use Rattle.command_words.proofs.reading.has_hyphens.Goals as goal

pub returns-then-begins_with_hyphen : goal.returns-then-begins_with_hyphen
returns-then-begins_with_hyphen c =
    let words = c.args.words.now in
    let at = c.loop-word.word-index in
    let first = ap begins_with_hyphen (sym c.as_bytes.ensures.value) ∙ sym c.begins_with_hyphen.ensures ∙ c.if-begins_with_hyphen.true in
    sym (sym c.loop-word.invariant ∙ one_more words at c.word-item.result c.loop-word-test.true c.word-item.is
    ∙ ap (λ b. b || list_any begins_with_hyphen (drop (suc at) (texts_of words))) first)

pub loop-word-preserved : goal.loop-word-preserved
loop-word-preserved c =
    let words = c.args.words.now in
    let at = c.loop-word.word-index in
    let first = ap begins_with_hyphen (sym c.as_bytes.ensures.value) ∙ sym c.begins_with_hyphen.ensures ∙ c.if-begins_with_hyphen.false in
    let turn = one_more words at c.word-item.result c.loop-word-test.true c.word-item.is
    ∙ ap (λ b. b || list_any begins_with_hyphen (drop (suc at) (texts_of words))) first in
    let next : at + 1 ≡ suc at = omega arith in
    ap (λ k. list_any begins_with_hyphen (drop k (texts_of words))) next ∙ sym turn ∙ c.loop-word.invariant
