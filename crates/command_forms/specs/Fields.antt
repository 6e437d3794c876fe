-- The forms of a command's fields that are not a plain value, and how they are written.
use Rattle.std.specs.Prelude.{ℕ, nat_le, if◌then◌else◌, List, [], ◌∷◌, Result, Ok, Err, codes, slice_index_or}
use Rattle.serde_json.specs.Data.{Data}
use Rattle.json_form.specs.Form.{◌>>=◌, passing, text_at, month_at, number_at, array_of, array_up_to}
use Rattle.json_form.specs.Written.{number_data, array_data}
use Rattle.rent_table.specs.declared.plan.Bound.{Bound}
use Rattle.book_rows.specs.Fit.{is_name, is_within}

-- a name of at most so many bytes
unfoldable pub name_at : ℕ → Data → Result (List ℕ) (List ℕ)
name_at most d = text_at d >>= passing (is_name most)

-- a month in that range
unfoldable pub month_within : ℕ → ℕ → Data → Result ℕ (List ℕ)
month_within least most d = month_at d >>= passing (is_within least most)

-- the ranks or the codes of at most 16 preferences, each from 1 to the most
abbrev pub preferences_at : ℕ → Data → Result (List ℕ) (List ℕ)
preferences_at most = array_up_to 16 (number_at 1 most)

-- limits for families of 1 to 12 persons
abbrev pub limits_at : Data → Result (List ℕ) (List ℕ)
limits_at = array_of 12 (number_at 0 9999999)

-- where the least is above the most, it is the second that doesn't fit
abbrev pub bound_of : ℕ → ℕ → Result Bound (List ℕ)
bound_of least most = if nat_le least most then Ok (record { least = least; most = most }) else Err (codes "[1]")

-- a pair of numbers, the least and the most
unfoldable pub bound_at : Data → Result Bound (List ℕ)
bound_at d = array_of 2 (number_at 1 16) d >>= λ pair. bound_of (slice_index_or pair 0 0) (slice_index_or pair 1 0)

-- bounds for 0 to 5 bedrooms
abbrev pub bounds_at : Data → Result (List Bound) (List ℕ)
bounds_at = array_of 6 bound_at

abbrev pub bound_data : Bound → Data
bound_data bound = array_data number_data (bound.least ∷ bound.most ∷ [])
