-- Which of a household's records count, as of an act and on a day: own rules, where no other source is named.
--
-- Each definition takes records of one household, and where it takes no act, those that are known.
use Rattle.std.specs.Prelude.{ℕ, ◌&&◌, ◌==◌, not, nat_le, max, Bool, true, false, List, filter, fold, Option}
use Rattle.std.specs.List.{list_any}
use Rattle.record_history.specs.declared.records.{Kind.Kind, Record.Record}
use Rattle.row_choice.specs.Latest.{comes_before as pair_comes_before, later as later_by, latest as latest_by}

-- the records that the acts up to this one made
abbrev pub as_of : ℕ → List Record → List Record
as_of act records = filter (λ r. nat_le r.act act) records

-- it withdraws another record, and certifies nothing
abbrev pub is_withdrawal : Kind → Bool
is_withdrawal Kind.WD = true
is_withdrawal _ = false

-- it withdraws nothing, and none of the records corrects or withdraws it, whether or not that one counts itself
abbrev pub is_live : List Record → Record → Bool
is_live records r = not (is_withdrawal r.kind) && not (list_any (λ other. other.corrects == r.number) records)

-- the records that count
abbrev pub live_records : List Record → List Record
live_records records = filter (is_live records) records

-- the record of that number counts as of the act
abbrev pub is_live_as_of : ℕ → List Record → ℕ → Bool
is_live_as_of act records number = list_any (λ r. r.number == number) (live_records (as_of act records))

-- it begins earlier, or on the same day and has the smaller number
abbrev pub comes_before : Record → Record → Bool
comes_before a b = pair_comes_before a.from a.number b.from b.number

-- the one of the two that comes last
abbrev pub later : Option Record → Record → Option Record
later best r = later_by comes_before best r

-- the record that begins last, and of those that begin on one day the one with the greatest number
abbrev pub latest : List Record → Option Record
latest records = latest_by comes_before records

-- the record by which the household is certified on the day (Handbook 4350.3 REV-1, chapter 7, in outline; that a greater
-- number goes before on the same day is an own rule)
abbrev pub in_force : List Record → ℕ → Option Record
in_force records day = latest (filter (λ r. nat_le r.from day) (live_records records))

-- the same, as anyone could know it at the act
abbrev pub in_force_as_of : ℕ → List Record → ℕ → Option Record
in_force_as_of act records day = in_force (as_of act records) day

-- the greatest number that a record has, and 0 where there is none
abbrev pub newest_number : List Record → ℕ
newest_number records = fold (λ most r. max most r.number) 0 records

-- the latest act that made one of the records, and 0 where there is none
abbrev pub newest_act : List Record → ℕ
newest_act records = fold (λ most r. max most r.act) 0 records
