-- The forms of JSON values.
--
-- A form is a function of a value: what is read, or the path of the first place that doesn't fit, seen from
-- the value. The whole of a value comes before its parts, and its parts in the order in which the form names
-- them.
use Rattle.std.specs.Prelude.{ℕ, suc, ◌+◌, ◌&&◌, ◌||◌, ◌==◌, nat_le, Bool, false, not, if◌then◌else◌, List, [], ◌∷◌, Option, Some, None, option_and_then, Result, Ok, Err, ⊤, codes, bytes_eq}
use Rattle.std.specs.{List.list_any, Str.is_utf8}
use Rattle.serde_json.specs.Data.{Data, Items, no_items, item, Members, no_members, member}
use Rattle.serde_json.specs.Find.{get, as_bool, as_number, as_str, as_array, as_object, as_u64}
use Rattle.serde_json.specs.Read.{read}
use Rattle.days_core.specs.DayText.{day_from, month_from}
use Rattle.json_form.specs.{Path.position, Path.joined, Written.names_of}

-- one reading after the other: the first that fails is what fails
infixl 10 ◌>>=◌
abbrev pub ◌>>=◌ : {A B : Type 0} → Result A (List ℕ) → (A → Result B (List ℕ)) → Result B (List ℕ)
(Ok x) >>= next = next x
(Err path) >>= next = Err path

-- what is there, and else the value itself doesn't fit
abbrev pub fit : {A : Type 0} → Option A → Result A (List ℕ)
fit (Some x) = Ok x
fit None = Err []

-- what was read a step further in
abbrev pub under : {A : Type 0} → List ℕ → Result A (List ℕ) → Result A (List ℕ)
under step (Ok x) = Ok x
under step (Err path) = Err (joined step path)

-- ---- the bytes of a value

-- The value that the bytes are: None where they are not UTF-8 or no JSON, or nest deeper than 127.
abbrev pub data_from : List ℕ → Option Data
data_from bytes = if is_utf8 bytes then read bytes else None

-- what was read, where it passes the test
abbrev pub passing : {A : Type 0} → (A → Bool) → A → Result A (List ℕ)
passing test x = if test x then Ok x else Err []

-- ---- plain values

unfoldable pub bool_at : Data → Result Bool (List ℕ)
bool_at d = fit (as_bool d)

unfoldable pub text_at : Data → Result (List ℕ) (List ℕ)
text_at d = fit (as_str d)

-- a whole number in that range, without fraction or exponent
unfoldable pub number_at : ℕ → ℕ → Data → Result ℕ (List ℕ)
number_at least most d = fit (option_and_then as_u64 (as_number d)) >>= passing (λ number. nat_le least number && nat_le number most)

unfoldable pub u32_at : Data → Result ℕ (List ℕ)
u32_at d = number_at 0 4294967295 d

-- a day, as the text YYYY-MM-DD
unfoldable pub day_at : Data → Result ℕ (List ℕ)
day_at d = fit (option_and_then day_from (as_str d))

-- a month, as the text YYYY-MM
unfoldable pub month_at : Data → Result ℕ (List ℕ)
month_at d = fit (option_and_then month_from (as_str d))

-- what the first of some words says that is the text
abbrev pub chosen : {A : Type 0} → List (List ℕ × A) → List ℕ → Option A
chosen [] text = None
chosen (choice ∷ choices) text = if bytes_eq text choice.0 then Some choice.1 else chosen choices text

-- one of some words
unfoldable pub one_of : {A : Type 0} → List (List ℕ × A) → Data → Result A (List ℕ)
one_of choices d = fit (option_and_then (chosen choices) (as_str d))

-- ---- objects

-- the members of an object
abbrev pub object_at : Data → Result Members (List ℕ)
object_at d = fit (as_object d)

-- an object, whatever its members
unfoldable pub is_object_at : Data → Result ⊤ (List ℕ)
is_object_at d = object_at d >>= λ members. Ok tt

abbrev pub if_found : {A : Type 0} → (Data → Result A (List ℕ)) → Option Data → Result A (List ℕ)
if_found read (Some d) = read d
if_found read None = Err []

-- a field of that name and form
unfoldable pub field : {A : Type 0} → List ℕ → (Data → Result A (List ℕ)) → Data → Result A (List ℕ)
field name read d = under name (if_found read (get name d))

abbrev pub some_if_found : {A : Type 0} → (Data → Result A (List ℕ)) → Option Data → Result (Option A) (List ℕ)
some_if_found read (Some d) = read d >>= λ x. Ok (Some x)
some_if_found read None = Ok None

-- the same, where the field may be missing
unfoldable pub optional_field : {A : Type 0} → List ℕ → (Data → Result A (List ℕ)) → Data → Result (Option A) (List ℕ)
optional_field name read d = under name (some_if_found read (get name d))

abbrev pub is_listed : List (List ℕ) → List ℕ → Bool
is_listed names name = list_any (bytes_eq name) names

-- some member has a name that is not listed
abbrev pub has_other : List (List ℕ) → Members → Bool
has_other names no_members = false
has_other names (member name d members) = not (is_listed names name) || has_other names members

-- an object with no members but these
unfoldable pub only : List (List ℕ) → Data → Result ⊤ (List ℕ)
only names d = object_at d >>= λ members. if has_other names members then Err (codes "?") else Ok tt

-- what was read of an object, where that has no members but these
abbrev pub closed : {A : Type 0} → List (List ℕ) → A → Data → Result A (List ℕ)
closed names x d = only names d >>= λ _. Ok x

-- the same, with those that it is written with
abbrev pub closed_by : {A : Type 0} → (A → Members) → A → Data → Result A (List ℕ)
closed_by members x d = closed (names_of (members x)) x d

-- ---- arrays

-- the items, the first of which is at that index
unfoldable pub items_from : {A : Type 0} → (Data → Result A (List ℕ)) → ℕ → Items → Result (List A) (List ℕ)
items_from read index no_items = Ok []
items_from read index (item d items) = do
  x ← under (position index) (read d)
  xs ← items_from read (index + 1) items
  Ok (x ∷ xs)

abbrev pub count_of : Items → ℕ
count_of no_items = 0
count_of (item d items) = suc (count_of items)

-- an array of any length, with items of one form
unfoldable pub array_at : {A : Type 0} → (Data → Result A (List ℕ)) → Data → Result (List A) (List ℕ)
array_at read d = fit (as_array d) >>= items_from read 0

-- the same where its length passes a test
unfoldable pub array_if : {A : Type 0} → (ℕ → Bool) → (Data → Result A (List ℕ)) → Data → Result (List A) (List ℕ)
array_if test read d = fit (as_array d) >>= λ items. if test (count_of items) then items_from read 0 items else Err []

-- as many as that
abbrev pub array_of : {A : Type 0} → ℕ → (Data → Result A (List ℕ)) → Data → Result (List A) (List ℕ)
array_of length read = array_if (λ count. count == length) read

-- at most so many
abbrev pub array_up_to : {A : Type 0} → ℕ → (Data → Result A (List ℕ)) → Data → Result (List A) (List ℕ)
array_up_to longest read = array_if (λ count. nat_le count longest) read
