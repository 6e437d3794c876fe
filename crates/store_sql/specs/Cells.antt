-- The cells of a book's file: how a number of the book looks in one, and which values are such cells.
use Rattle.std.specs.Prelude.{ℕ, ◌+◌, ◌-◌, ℤ, pos, ◌+ℤ◌, ◌-ℤ◌, ◌&&◌, ◌||◌, ◌==◌, int_le, unsigned_abs, if◌then◌else◌, Bool, true, false, Option, None, Some, List, [], ◌∷◌, slice_index_or}
use Rattle.sqlite.specs.declared.types.Value.{Value}
use Rattle.sqlite.specs.declared.types.Value.TheVariants.{Null, Int, Text as Words}
use Rattle.sqlite.specs.Values.{or_null}
use Rattle.sqlite_trees.specs.View.{is_int}
use Rattle.sqlite_sql.specs.Ops.{is_null}
use Rattle.sqlite_rules.specs.Edit.{id_in}
use Rattle.record_history.specs.declared.records.Kind.{Kind}
use Rattle.record_history.specs.declared.records.Kind.TheVariants.{MI, IC, AR, IR, GR, UT, MO, TM, WD}

abbrev pub number_cell : ℕ → Value
number_cell n = Int (pos n)

-- counted from 1970-01-01: 32,872 days lie between 1880-01-01 and that day
abbrev pub day_cell : ℕ → Value
day_cell day = Int (pos day -ℤ pos 32872)

-- counted from the first month of the year 0: 22,560 months lie before 1880
abbrev pub month_cell : ℕ → Value
month_cell month = Int (pos (month + 22560))

abbrev pub kind_number : Kind → ℤ
kind_number MI = pos 1
kind_number IC = pos 2
kind_number AR = pos 3
kind_number IR = pos 4
kind_number GR = pos 5
kind_number UT = pos 6
kind_number MO = pos 7
kind_number TM = pos 8
kind_number WD = pos 9

abbrev pub kind_cell : Kind → Value
kind_cell kind = Int (kind_number kind)

abbrev pub flag_cell : Bool → Value
flag_cell is = Int (if is then pos 1 else pos 0)

abbrev pub maybe_day_cell : Option ℕ → Value
maybe_day_cell = or_null day_cell

-- ---- what a cell says

abbrev pub number_of : Value → ℕ
number_of (Int (pos n)) = n
number_of _ = 0

abbrev pub day_of : Value → ℕ
day_of v = unsigned_abs (id_in v +ℤ pos 32872)

abbrev pub month_of : Value → ℕ
month_of v = number_of v - 22560

abbrev pub kind_of : Value → Kind
kind_of v = slice_index_or (MI ∷ IC ∷ AR ∷ IR ∷ GR ∷ UT ∷ MO ∷ TM ∷ WD ∷ []) (number_of v - 1) WD

abbrev pub flag_of : Value → Bool
flag_of v = number_of v == 1

abbrev pub words_of : Value → List ℕ
words_of (Words text) = text
words_of _ = []

abbrev pub maybe_day_of : Value → Option ℕ
maybe_day_of Null = None
maybe_day_of v = Some (day_of v)

-- ---- which values are such cells

-- a whole number from the one to the other
abbrev is_from : ℤ → ℤ → Value → Bool
is_from least most v = is_int v && (int_le least (id_in v) && int_le (id_in v) most)

unfoldable pub is_number : Value → Bool
is_number v = is_from (pos 0) (pos 4294967295) v

-- 1880-01-01 to 2199-12-31
unfoldable pub is_day : Value → Bool
is_day v = is_from (pos 0 -ℤ pos 32872) (pos 84005) v

-- 1880-01 to 2199-12
unfoldable pub is_month : Value → Bool
is_month v = is_from (pos 22560) (pos 26399) v

unfoldable pub is_kind : Value → Bool
is_kind v = is_from (pos 1) (pos 9) v

unfoldable pub is_flag : Value → Bool
is_flag v = is_from (pos 0) (pos 1) v

unfoldable pub is_amount : Value → Bool
is_amount v = is_from (pos 0 -ℤ pos 2147483648) (pos 2147483647) v

unfoldable pub is_maybe_day : Value → Bool
is_maybe_day v = is_null v || is_day v

unfoldable pub is_words : Value → Bool
is_words (Words text) = true
is_words _ = false
