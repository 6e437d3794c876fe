-- The order in which records stand where no act made one before an earlier act did.
use Rattle.std.specs.Prelude.{◌≤◌, List, AllPairs}
use Rattle.record_history.specs.declared.records.Record.{Record}

-- no record is of an earlier act than one before it
abbrev pub RecordsNeverFall : List Record → Type 0
RecordsNeverFall records = AllPairs (λ r next. r.act ≤ next.act) records
