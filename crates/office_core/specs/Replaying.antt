-- What an office knows by acts that it does again, where their rows are held elsewhere.
use Rattle.std.specs.Prelude.{◌≡◌, ◌≤◌, length, take, All, IfSome, ℕ}
use Rattle.std.specs.List.{range_with_len, flat_map}
use Rattle.record_history.specs.Held.{IsWithin, room_of}
use Rattle.book_rows.specs.Book.{Book}
use Rattle.row_index.specs.Index.{index_of}
use Rattle.book_replay.specs.Below.book_search.Requests.{act_key}
use Rattle.office_answers.specs.Below.office_step.{Known.known_of, Step.IsReached, Valid.records_by, Valid.lines_by}
use Rattle.office_core.specs.{declared.replaying.Replay.Replay, Planned.Planned}
use Rattle.record_history.specs.Limits.{most_acts, most_lines}

-- it is what an office of that capacity knows whose book this is
pub record IsReplay (replay : Replay) (book : Book) : Type 0 where
  pub acts : replay.capacity.acts ≤ most_acts
  pub lines : replay.capacity.lines ≤ most_lines
  pub reached : IsReached replay.capacity book
  pub known : replay.register.known ≡ known_of book
  pub requests : replay.requests.entries ≡ index_of act_key book.acts
  pub records : All IsWithin book.records
  pub held : replay.lines ≡ length book.lines

-- there is room for what is known by the step
pub record HasRoomIn (replay : Replay) (step : Planned) : Type 0 where
  pub acts : 1 ≤ replay.register.room
  pub records : IfSome step.rows.made (λ r. 1 ≤ room_of replay.register.record_room r.household)
  pub requests : 1 ≤ replay.requests.room

-- the rows that tables have of their first so many acts
abbrev pub rows_of_first : ℕ → Book → Book
rows_of_first count tables = record {
  acts = take count tables.acts;
  records = flat_map (λ n. records_by n tables.records) (range_with_len 1 count);
  lines = flat_map (λ n. lines_by n tables.lines) (range_with_len 1 count);
}
