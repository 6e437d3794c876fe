-- How texts are written, and what `serde_json` read of bytes, as the forms see it.
use Rattle.std.proofs.Common.{◌≡◌, ℕ, List, Some, None, inl, inr, refl}
use Rattle.std.specs.Str.{IsUtf8, is_utf8}
use Rattle.std.proofs.lemmas.{Bool.cases_Bool, Str.is_utf8-from_IsUtf8, Str.IsUtf8-from_is_utf8}
use Rattle.serde_json.specs.{Data.Data, Data.null, Data.string, Read.read}
use Rattle.json_form.specs.Form.{data_from}
use Rattle.json_form.specs.Written.{text_data}

pub text_data-text : (text : List ℕ) → IsUtf8 text → text_data text ≡ string text
unfolding text_data
text_data-text text is = rw (is_utf8-from_IsUtf8 text is) refl

pub text_data-other : (text : List ℕ) → (IsUtf8 text → ⊥) → text_data text ≡ null
unfolding text_data
text_data-other text other =
    elim (cases_Bool (is_utf8 text)) [
      | inl is ↦ absurd (other (IsUtf8-from_is_utf8 text is))
      | inr none ↦ rw none refl
    ]

pub data_from_text : (bytes : List ℕ) (d : Data) → IsUtf8 bytes → read bytes ≡ Some d → data_from bytes ≡ Some d
data_from_text bytes d text found = rw (is_utf8-from_IsUtf8 bytes text) found

pub data_from_other : (bytes : List ℕ) → (IsUtf8 bytes → read bytes ≡ None) → data_from bytes ≡ None
data_from_other bytes refused =
    elim (cases_Bool (is_utf8 bytes)) [
      | inl text ↦ rw text (refused (IsUtf8-from_is_utf8 bytes text))
      | inr other ↦ rw other refl
    ]
