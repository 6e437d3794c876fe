-- The values that are written of a command's fields are plain, and are read again as these fields.
use Rattle.std.proofs.Common.{◌≡◌, ℕ, suc, ◌<◌, ◌≤◌, ◌^◌, ◌&&◌, ◌==◌, true, nat_le, List, [], ◌∷◌, length, IsUtf8, refl, arith}
use Rattle.std.specs.List.{list_all}
use Rattle.std.proofs.lemmas.Bool.{and_parts, leb-true, lt-ltb}
use Rattle.json.proofs.Printed.Utf8.{are_ascii, IsUtf8-are_ascii}
use Rattle.json_form.specs.Form.{text_at, month_at, number_at, items_from, array_if}
use Rattle.json_form.specs.Written.{number_data, month_data, text_data, array_data}
use Rattle.json_form.proofs.Stands.{Stands, within, below, month, text, tested, array_passing}
use Rattle.rent_table.specs.declared.plan.Bound.{Bound}
use Rattle.book_rows.specs.Fit.{is_within, is_printable, is_name, is_bound, are_bounds, are_limits}
use Rattle.command_forms.specs.Fields.{name_at, month_within, preferences_at, limits_at, bound_at, bound_data, bounds_at}

are_ascii-printable : (bytes : List ℕ) → list_all is_printable bytes ≡ true → are_ascii bytes ≡ true
are_ascii-printable [] h = refl
are_ascii-printable (byte ∷ bytes) h =
    let both = and_parts (is_printable byte) (list_all is_printable bytes) h in
    let ends = and_parts (nat_le 32 byte) (nat_le byte 126) both.0 in
    rw (lt-ltb byte 128 (omega (arith, leb-true byte 126 ends.1)), are_ascii-printable bytes both.1) refl

name_is_utf8 : (most : ℕ) (x : List ℕ) → is_name most x ≡ true → IsUtf8 x
name_is_utf8 most x h =
    let long = and_parts (is_within 1 most (length x)) _ h in
    let bytes = and_parts (list_all is_printable x) _ long.1 in
    IsUtf8-are_ascii x (are_ascii-printable x bytes.0)

pub name : (n most : ℕ) (x : List ℕ) → is_name most x ≡ true → Stands n (name_at most) (text_data x) x
unfolding name_at
name n most x h = tested n text_at (is_name most) (text_data x) x (text n x (name_is_utf8 most x h)) h

pub month_in : (n least most x : ℕ) → is_within least most x ≡ true → most ≤ 3839 → Stands n (month_within least most) (month_data x) x
unfolding month_within
month_in n least most x h bound =
    let ends = and_parts (nat_le least x) (nat_le x most) h in
    tested n month_at (is_within least most) (month_data x) x (month n x (omega (arith, leb-true x most ends.1))) h

pub preferences : (n most : ℕ) (xs : List ℕ) → (nat_le (length xs) 16 && list_all (is_within 1 most) xs) ≡ true → most < 2 ^ 64
    → Stands (suc n) (preferences_at most) (array_data number_data xs) xs
preferences n most xs h bound =
    array_passing n (number_at 1 most) number_data (is_within 1 most) (λ x fits. within n 1 most x fits bound) (λ count. nat_le count 16) xs h

pub limits : (n : ℕ) (xs : List ℕ) → are_limits xs ≡ true → Stands (suc n) limits_at (array_data number_data xs) xs
limits n xs h =
    array_passing n (number_at 0 9999999) number_data (λ limit. nat_le limit 9999999) (λ x fits. below n 9999999 x fits (omega arith)) (λ count. count == 12) xs h

bound : (n : ℕ) (b : Bound) → is_bound b ≡ true → Stands (suc n) bound_at (bound_data b) b
unfolding bound_at array_if items_from array_data
bound n b h =
    let ends = and_parts (is_within 1 16 b.least) (is_within 1 16 b.most && nat_le b.least b.most) h in
    let order = and_parts (is_within 1 16 b.most) (nat_le b.least b.most) ends.1 in
    let least = within n 1 16 b.least ends.0 (omega arith) in
    let most = within n 1 16 b.most order.0 (omega arith) in
    record { again = simp (least.again, most.again, order.1) refl; plain = (least.plain, (most.plain, tt)) }

pub bounds : (n : ℕ) (bs : List Bound) → are_bounds bs ≡ true → Stands (suc (suc n)) bounds_at (array_data bound_data bs) bs
bounds n bs h = array_passing (suc n) bound_at bound_data is_bound (bound n) (λ count. count == 6) bs h
