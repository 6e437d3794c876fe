-- Values that are written plainly, and read again as what they were written for.
use Rattle.std.proofs.Common.{◌≡◌, ℕ, suc, ◌+◌, ◌<◌, ◌≤◌, ◌^◌, ◌&&◌, Bool, true, nat_le, List, [], ◌∷◌, map, length, Result, Ok, IsUtf8, ap, refl, arith}
use Rattle.std.specs.List.{All, AllByRecursion, list_all}
use Rattle.std.proofs.lemmas.{Bool.and_parts, Bool.le-leb, Bool.leb-true, List.Elements.recursion_from_All, List.Sums.AllPass-from_list_all, List.Elements.All-from_recursion, Str.IsUtf8-from_ascii, Str.Ascii.IsAscii-from_all}
use Rattle.json.proofs.Printed.Utf8.{are_ascii, IsUtf8-are_ascii}
use Rattle.serde_json.specs.{Data.Data, Data.boolean, View.items_of}
use Rattle.days_core.specs.Calendar.{month_of, month_year}
use Rattle.days_core.specs.DayText.{day_text, month_text}
use Rattle.days_core.proofs.{Bridge.month_of_fits, Bridge.days_in_bounds, DayTextLemmas.day_from-day_text, DayTextLemmas.month_from-month_text}
use Rattle.json_form.specs.Form.{◌>>=◌, fit, passing, bool_at, text_at, number_at, u32_at, day_at, month_at, items_from, count_of, array_at, array_if}
use Rattle.json_form.specs.Written.{number_data, day_data, month_data, text_data, array_data}
use Rattle.json_form.proofs.{Texts.text_data-text, Plain.IsPlain, Plain.ArePlain}

-- what stands as that value, of that depth, is plain and is read again
pub record Stands {A : Type 0} (depth : ℕ) (form : Data → Result A (List ℕ)) (d : Data) (x : A) : Type 0 where
  pub again : form d ≡ Ok x
  pub plain : IsPlain depth d

-- ---- plain values

pub word : (text : List ℕ) → are_ascii text ≡ true → IsUtf8 text
word text h = IsUtf8-are_ascii text h

pub flag : (n : ℕ) (b : Bool) → Stands n bool_at (boolean b) b
unfolding bool_at
flag n b = record { again = refl; plain = tt }

pub within : (n least most number : ℕ) → (nat_le least number && nat_le number most) ≡ true → most < 2 ^ 64 → Stands n (number_at least most) (number_data number) number
unfolding number_at number_data
within n least most number h bound =
    let ends = and_parts (nat_le least number) (nat_le number most) h in
    record { again = rw h refl; plain = omega (arith, leb-true number most ends.1) }

pub below : (n most number : ℕ) → nat_le number most ≡ true → most < 2 ^ 64 → Stands n (number_at 0 most) (number_data number) number
below n most number h bound = within n 0 most number (rw (le-leb 0 number (omega arith), h) refl) bound

pub number : (n x : ℕ) → x < 2 ^ 32 → Stands n u32_at (number_data x) x
unfolding u32_at
number n x h = below n 4294967295 x (le-leb x 4294967295 (omega arith)) (omega arith)

abbrev AreAscii : List ℕ → Type 0
AreAscii bytes = AllByRecursion (λ byte. byte < 128) bytes

pub day_text-is_utf8 : (day : ℕ) → day ≤ 116877 → IsUtf8 (day_text day)
day_text-is_utf8 day h =
    let fits = month_of_fits day h in
    let short = days_in_bounds (month_of day) in
    let each : AreAscii (day_text day) = omega (arith, fits.begun, fits.ends, fits.month_in, short.1) in
    IsUtf8-from_ascii (day_text day) (IsAscii-from_all (day_text day) (All-from_recursion (λ byte. byte < 128) (day_text day) each))

pub day : (n x : ℕ) → x ≤ 116877 → Stands n day_at (day_data x) x
unfolding day_at day_data
day n x h = record { again = ap fit (day_from-day_text x h); plain = day_text-is_utf8 x h }

month_text-is_utf8 : (month : ℕ) → month ≤ 3839 → IsUtf8 (month_text month)
month_text-is_utf8 month h =
    let year : month_year month ≤ 2199 = omega arith in
    let each : AreAscii (month_text month) = omega arith in
    IsUtf8-from_ascii (month_text month) (IsAscii-from_all (month_text month) (All-from_recursion (λ byte. byte < 128) (month_text month) each))

pub month : (n x : ℕ) → x ≤ 3839 → Stands n month_at (month_data x) x
unfolding month_at month_data
month n x h = record { again = ap fit (month_from-month_text x h); plain = month_text-is_utf8 x h }

pub text : (n : ℕ) (x : List ℕ) → IsUtf8 x → Stands n text_at (text_data x) x
unfolding text_at
text n x h = rw (text_data-text x h) (record { again = refl; plain = h })

-- what passes a test besides
pub tested : {A : Type 0} (n : ℕ) (form : Data → Result A (List ℕ)) (test : A → Bool) (d : Data) (x : A) → Stands n form d x → test x ≡ true
    → Stands n (λ e. form e >>= passing test) d x
tested n form test d x h passes = record { again = rw (h.again, passes) refl; plain = h.plain }

-- ---- arrays

-- the rows of a list stand as their values
abbrev RowsStand : {A : Type 0} → ℕ → (Data → Result A (List ℕ)) → (A → Data) → List A → Type 0
RowsStand depth form write rows = AllByRecursion (λ row. Stands depth form (write row) row) rows

items_stand : {A : Type 0} (n : ℕ) (form : Data → Result A (List ℕ)) (write : A → Data) (index : ℕ) (rows : List A) → RowsStand n form write rows
    → (items_from form index (items_of (map write rows)) ≡ Ok rows) × ArePlain n (items_of (map write rows))
unfolding items_from
items_stand n form write index [] stand = (refl, tt)
items_stand n form write index (row ∷ rows) stand =
    let others = items_stand n form write (index + 1) rows stand.1 in
    (rw (stand.0.again, others.0) refl, (stand.0.plain, others.1))

count_as_length : {A : Type 0} (write : A → Data) (rows : List A) → count_of (items_of (map write rows)) ≡ length rows
count_as_length write [] = refl
count_as_length write (row ∷ rows) = ap suc (count_as_length write rows)

-- the rows of which each fits
pub array : {A : Type 0} (n : ℕ) (form : Data → Result A (List ℕ)) (write : A → Data) (Fits : A → Type 0) → ((x : A) → Fits x → Stands n form (write x) x)
    → (rows : List A) → All Fits rows → Stands (suc n) (array_at form) (array_data write rows) rows
unfolding array_at array_data
array n form write Fits each rows fit =
    let stand : RowsStand n form write rows = recursion_from_All (λ row. Stands n form (write row) row) rows (λ k d h. each _ (fit k d h)) in
    let items = items_stand n form write 0 rows stand in record { again = items.0; plain = items.1 }

-- the rows of which each passes a test, where their number does
pub array_passing : {A : Type 0} (n : ℕ) (form : Data → Result A (List ℕ)) (write : A → Data) (test : A → Bool) → ((x : A) → test x ≡ true → Stands n form (write x) x)
    → (fits : ℕ → Bool) (rows : List A) → (fits (length rows) && list_all test rows) ≡ true → Stands (suc n) (array_if fits form) (array_data write rows) rows
unfolding array_if array_data
array_passing n form write test each fits rows h =
    let both = and_parts (fits (length rows)) (list_all test rows) h in
    let stand : RowsStand n form write rows =
    recursion_from_All (λ row. Stands n form (write row) row) rows (λ k d h. each _ (AllPass-from_list_all test rows both.1 k d h)) in
    let items = items_stand n form write 0 rows stand in record { again = rw (count_as_length write rows, both.0) items.0; plain = items.1 }
