-- The values that are written.
use Rattle.std.specs.Prelude.{ℕ, ℤ, if◌then◌else◌, List, [], ◌∷◌, map, Option, Some, None, codes}
use Rattle.std.specs.Str.{is_utf8}
use Rattle.serde_json.specs.Data.{Data, null, number, unsigned, string, array, object, Members, no_members, member}
use Rattle.serde_json.specs.{Find.of_integer, View.items_of}
use Rattle.days_core.specs.DayText.{day_text, month_text}

-- a number, without fraction or exponent
unfoldable pub number_data : ℕ → Data
number_data n = number (unsigned n)

-- whole dollars, which may be below 0
unfoldable pub amount_data : ℤ → Data
amount_data amount = number (of_integer amount)

-- a day, as the text YYYY-MM-DD
unfoldable pub day_data : ℕ → Data
day_data day = string (day_text day)

-- a month, as the text YYYY-MM
unfoldable pub month_data : ℕ → Data
month_data month = string (month_text month)

-- a text; bytes that are none, as null
unfoldable pub text_data : List ℕ → Data
text_data text = if is_utf8 text then string text else null

-- a value that may be missing, and is null then
abbrev pub or_null : {A : Type 0} → (A → Data) → Option A → Data
or_null write (Some x) = write x
or_null write None = null

-- an array of the values of a list
unfoldable pub array_data : {A : Type 0} → (A → Data) → List A → Data
array_data write rows = array (items_of (map write rows))

-- the names of an object's members
abbrev pub names_of : Members → List (List ℕ)
names_of no_members = []
names_of (member name d members) = name ∷ names_of members

-- ---- refusals

abbrev pub refused : Data → Data
refused cause = object (member (codes "refused") cause no_members)

-- the first place that isn't of the form
abbrev pub bad_form_data : List ℕ → Data
bad_form_data path = refused (object (
    member (codes "kind") (string (codes "Form")) (
    member (codes "path") (string path) no_members)))
