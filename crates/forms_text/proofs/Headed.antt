-- The heading grows by its lines.
use Rattle.std.proofs.Common.{◌≡◌, ◌∙◌, ◌++◌, ℕ, List, codes, decimal}
use Rattle.std.specs.Fmt.{signed_decimal}
use Rattle.days_core.specs.DayText.{month_text}
use Rattle.text_columns.specs.Columns.{labelled}
use Rattle.office_core.specs.Below.office_answers.declared.answer.Voucher.{Voucher}
use Rattle.forms_text.specs.Form.{heading, household_count, own_lines}
use Rattle.forms_text.proofs.Parts.{six}

pub headed : (voucher : Voucher) (old month households requested adjustments sum t u v w x y : List ℕ)
    → month ≡ month_text voucher.month → households ≡ decimal (household_count (own_lines voucher))
    → requested ≡ signed_decimal voucher.requested → adjustments ≡ signed_decimal voucher.adjustments → sum ≡ signed_decimal voucher.total
    → t ≡ old ++ codes "FORM HUD-52670 (office layout)\n" → u ≡ t ++ labelled (codes "Month: ") month
    → v ≡ u ++ labelled (codes "Households: ") households → w ≡ v ++ labelled (codes "Requested: ") requested
    → x ≡ w ++ labelled (codes "Adjustments: ") adjustments → y ≡ x ++ labelled (codes "Total: ") sum
    → y ≡ old ++ heading voucher
unfolding heading
headed voucher old month households requested adjustments sum t u v w x y m h r a s p₁ p₂ p₃ p₄ p₅ p₆ =
    six old _ _ _ _ _ _ t u v w x y p₁ p₂ p₃ p₄ p₅ p₆
    ∙ (λ i. old ++ (codes "FORM HUD-52670 (office layout)\n" ++ labelled (codes "Month: ") (m i) ++ labelled (codes "Households: ") (h i)
    ++ labelled (codes "Requested: ") (r i) ++ labelled (codes "Adjustments: ") (a i) ++ labelled (codes "Total: ") (s i)))
