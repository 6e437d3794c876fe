-- An office of one clerk: its book, how much that may hold, and for how much more there is room.
use Rattle.std.specs.Prelude.{ℕ, ◌≡◌, ◌≤◌, List, All, IfSome}
use Rattle.record_history.specs.Held.{IsWithin, room_of as record_room_of}
use Rattle.book_rows.specs.Book.{Book, Room as TableRoom, HasRoom, book_of}
use Rattle.row_index.specs.Index.{index_of}
use Rattle.book_replay.specs.Below.book_search.Requests.{act_key}
use Rattle.office_answers.specs.Below.office_step.{declared.call.Capacity.Capacity, Known.known_of, Step.IsReached}
use Rattle.office_core.specs.{declared.office.Office.TheInside.Inside, Planned.Planned}
use Rattle.record_history.specs.Limits.{most_acts, most_lines}

-- for how many more rows there is room: in the tables, and beside them of acts, of records of each household, of requests
pub record Room : Type 0 where
  pub tables : TableRoom
  pub acts : ℕ
  pub records : List ℕ
  pub requests : ℕ

pub record Holding : Type 0 where
  pub capacity : Capacity
  pub book : Book
  pub room : Room

-- there is room for the step
pub record HasRoomFor (room : Room) (step : Planned) : Type 0 where
  pub tables : HasRoom room.tables step.rows
  pub acts : 1 ≤ room.acts
  pub records : IfSome step.rows.made (λ r. 1 ≤ record_room_of room.records r.household)
  pub requests : 1 ≤ room.requests

-- The book is one that an office of that capacity comes to, and what is kept beside its tables is what they give.
pub record IsOffice (office : Inside) : Type 0 where
  pub acts : office.capacity.acts ≤ most_acts
  pub lines : office.capacity.lines ≤ most_lines
  pub reached : IsReached office.capacity (book_of office.tables)
  pub known : office.register.known ≡ known_of (book_of office.tables)
  pub requests : office.requests.entries ≡ index_of act_key office.tables.acts.items
  pub records : All IsWithin office.tables.records.items
