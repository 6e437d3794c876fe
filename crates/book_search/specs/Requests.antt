-- Acts by their requests.
use Rattle.std.specs.Prelude.{ℕ}
use Rattle.book_rows.specs.declared.rows.ActRow.{ActRow}
use Rattle.row_index.specs.Index.{request_key}

-- the key by which an index has the act
abbrev pub act_key : ActRow → ℕ
act_key act = request_key act.clerk act.request
