-- Applicants of CSV.
use Rattle.std.specs.Prelude.{ℕ, ◌==◌, nat_le, if◌then◌else◌, Bool, true, false, Option, Some, None, option_map, List, [], ◌∷◌, length, map, codes, bytes_eq}
use Rattle.std.specs.{List.slice_split, Option.option_map_or}
use Rattle.days_core.specs.DayText.{◌>>=◌}
use Rattle.numerals.specs.Numerals.{number_between}
use Rattle.csv_records.specs.Records.{records_under}
use Rattle.book_rows.specs.{Fit.is_name, declared.command.Command.Command}
use Rattle.office_step.specs.{declared.call.Call.Call, Step.is_fit_call}
use Rattle.applicant_rows.specs.declared.row.ImportRow.{ImportRow}

-- the names of the columns
abbrev pub header : List (List ℕ)
header = codes "request" ∷ codes "name" ∷ codes "size" ∷ codes "persons" ∷ codes "accessible" ∷ codes "preferences" ∷ codes "annual" ∷ []

abbrev pub name_from : List ℕ → Option (List ℕ)
name_from field = if is_name 40 field then Some field else None

abbrev pub accessible_from : List ℕ → Option Bool
accessible_from field =
    if bytes_eq field (codes "yes") then Some true else (if bytes_eq field (codes "no") then Some false else None)

-- what each part is read as, where every one is read
abbrev pub each : (List ℕ → Option ℕ) → List (List ℕ) → Option (List ℕ)
each read [] = Some []
each read (part ∷ parts) = do
  x ← read part
  xs ← each read parts
  Some (x ∷ xs)

abbrev pub is_separator : ℕ → Bool
is_separator byte = byte == 59

-- at most 16 numbers from 1 to 16
abbrev pub numbers_from : List (List ℕ) → Option (List ℕ)
numbers_from parts = if nat_le (length parts) 16 then each (number_between 1 16) parts else None

-- no preferences, or such numbers with a semicolon between each two
abbrev pub preferences_from : List ℕ → Option (List ℕ)
preferences_from field = if length field == 0 then Some [] else numbers_from (slice_split is_separator field)

-- The clerk's call: seven fields, each in the range that an application has.
abbrev pub call_from : ℕ → List (List ℕ) → Option Call
call_from clerk (request ∷ name ∷ size ∷ persons ∷ accessible ∷ preferences ∷ annual ∷ []) = do
  request ← number_between 1 4294967295 request
  name ← name_from name
  size ← number_between 1 12 size
  persons ← number_between size 16 persons
  accessible ← accessible_from accessible
  annual ← number_between 0 9999999 annual
  preferences ← preferences_from preferences
  Some (record {
    clerk = clerk;
    request = request;
    command = Command.Apply (record { name = name; size = size; persons = persons; preferences = preferences; accessible = accessible; annual = annual });
  })
call_from clerk _ = None

-- a record of another form is a bad one
unfoldable pub row_from : ℕ → List (List ℕ) → ImportRow
row_from clerk fields = option_map_or ImportRow.Call (call_from clerk fields) ImportRow.Bad

-- what the records under the header are
abbrev pub applicants_in : ℕ → List ℕ → Option (List ImportRow)
applicants_in clerk bytes = option_map (map (row_from clerk)) (records_under header bytes)

-- an applicant's call is one that an office can be asked
abbrev pub is_fit_row : ImportRow → Bool
is_fit_row (ImportRow.Call call) = is_fit_call call
is_fit_row ImportRow.Bad = true
