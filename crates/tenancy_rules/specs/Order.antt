-- Which records may follow each other (own rules, for the certifications of Handbook 4350.3 REV-1, chapters 5 and 7).
--
-- Each definition takes the live records of one household.
use Rattle.std.specs.Prelude.{◌&&◌, ◌||◌, ◌==◌, not, if◌then◌else◌, Bool, true, false, List, filter, Option, Some, None}
use Rattle.row_choice.specs.Latest.{later as later_by, latest as latest_by}
use Rattle.record_history.specs.{declared.records.Kind.Kind, declared.records.Record.Record, Records.comes_before, Records.latest}

-- a move-in
abbrev pub is_move_in : Kind → Bool
is_move_in Kind.MI = true
is_move_in _ = false

-- an initial certification
abbrev pub is_initial : Kind → Bool
is_initial Kind.IC = true
is_initial _ = false

-- a unit transfer
abbrev pub is_transfer : Kind → Bool
is_transfer Kind.UT = true
is_transfer _ = false

-- a move-out
abbrev pub is_move_out : Kind → Bool
is_move_out Kind.MO = true
is_move_out _ = false

-- the kinds that may stand first: a move-in or an initial certification
abbrev pub may_begin : Kind → Bool
may_begin kind = is_move_in kind || is_initial kind

-- The kinds that may stand right after a kind: after a move-out none, after a termination of assistance an initial
-- certification or a move-out, and after any other all but a move-in and an initial certification.
abbrev pub may_follow : Kind → Kind → Bool
may_follow Kind.MO next = false
may_follow Kind.TM next = is_initial next || is_move_out next
may_follow _ next = not (may_begin next)

-- a transfer is to another unit, and every other record is for the unit of the record before it
abbrev pub has_its_unit : Record → Record → Bool
has_its_unit earlier next = if is_transfer next.kind then not (next.unit == earlier.unit) else next.unit == earlier.unit

-- the record right before it, in the order of first day and number
abbrev pub record_before : List Record → Record → Option Record
record_before records r = latest (filter (λ earlier. comes_before earlier r) records)

-- the record may stand right after that one, or first where there is none
abbrev pub is_in_order : Option Record → Record → Bool
is_in_order None r = may_begin r.kind
is_in_order (Some earlier) r = may_follow earlier.kind r.kind && has_its_unit earlier r

-- it begins later, or on the same day and has the greater number
abbrev pub comes_after : Record → Record → Bool
comes_after a b = comes_before b a

-- the one of the two that comes first
abbrev pub sooner : Option Record → Record → Option Record
sooner best r = later_by comes_after best r

-- the record that comes first
abbrev pub earliest : List Record → Option Record
earliest records = latest_by comes_after records

-- the record may not stand where it stands among the records
unfoldable pub is_out_of_order : List Record → Record → Bool
is_out_of_order records r = not (is_in_order (record_before records r) r)

-- the first record that may not stand where it stands
abbrev pub first_out_of_order : List Record → Option Record
first_out_of_order records = earliest (filter (is_out_of_order records) records)
