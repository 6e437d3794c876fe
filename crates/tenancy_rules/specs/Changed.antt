-- What an act does to the live records of a household (own rules).
use Rattle.std.specs.Prelude.{ℕ, ◌+◌, ◌<◌, ◌≡◌, ◌==◌, not, Bool, List, [], ◌∷◌, ◌++◌, filter, Option, Some, None, AllPairs, IfSome}
use Rattle.row_choice.specs.Latest.{comes_before as pair_comes_before}
use Rattle.record_history.specs.{declared.records.Record.Record, Records.live_records, Records.newest_number}
use Rattle.tenancy_rules.specs.declared.change.Change.{Change}

-- the records without the one of that number; 0 takes none away, since records are numbered from 1
abbrev pub without : ℕ → List Record → List Record
without number records = filter (λ r. not (r.number == number)) records

-- the one record, or none
abbrev pub listed : Option Record → List Record
listed None = []
listed (Some r) = r ∷ []

-- the live records of a household after the change: those that live now without the dropped one, and the added one
abbrev pub changed_records : List Record → Change → List Record
changed_records records change = without change.«drop» (live_records records) ++ listed change.add

-- what the change adds, if anything, is the next record of that household
abbrev pub AddsNext : List Record → ℕ → Change → Type 0
AddsNext records household change =
    IfSome change.add (λ r. (r.household ≡ household) × (r.number ≡ newest_number records + 1))

-- the numbers rise, so that each is that of one record
abbrev pub NumbersRise : List Record → Type 0
NumbersRise records = AllPairs (λ r next. r.number < next.number) records

-- the record comes before that place in the order of first day and number
abbrev pub is_before : ℕ → ℕ → Record → Bool
is_before day number r = pair_comes_before r.from r.number day number
