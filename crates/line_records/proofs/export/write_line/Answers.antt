use Rattle.std.proofs.Common.{◌≡◌, ◌∙◌, ◌++◌, ◌∷◌, [], ap, decimal, rules}
use Rattle.std.specs.Fmt.{signed_decimal}
use Rattle.std.proofs.lemmas.Result.{on_ok_weaker}
use Rattle.csv_records.specs.Records.{record_text}
use Rattle.csv_records.specs.Between.{text_of}
use Rattle.line_records.proofs.export.write_line.Goals as goal

pub returns-clause-text : goal.returns-clause-text
returns-clause-text c =
    let closing = c.as_bytes.ensures ∙ c.in_ok-closing.ensures in
    let household = c.as_bytes-2.ensures.value ∙ c.in_ok-household.ensures ∙ ap decimal c.into.ensures in
    let for_month = c.as_bytes-3.ensures ∙ c.in_ok-for_month.ensures in
    let first = c.as_bytes-4.ensures ∙ c.in_ok-first.ensures in
    let last = c.as_bytes-5.ensures ∙ c.in_ok-last.ensures in
    let old = c.as_bytes-6.ensures.value ∙ c.in_ok-old.ensures ∙ ap decimal c.into-2.ensures in
    let new = c.as_bytes-7.ensures.value ∙ c.in_ok-new.ensures ∙ ap decimal c.into-3.ensures in
    let amount : c.as_bytes-8.result.now ≡ signed_decimal c.args.line.now.amount = search rules in
    on_ok_weaker c.write_record.result
    (λ h. h ∙ (λ i. text_of c.args.writer.now ++ record_text (closing i ∷ household i ∷ for_month i ∷ first i ∷ last i ∷ old i ∷ new i ∷ amount i ∷ [])))
    c.write_record.ensures.text
