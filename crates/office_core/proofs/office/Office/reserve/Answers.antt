use Rattle.office_answers.specs.Below.office_step.Known.{known_of}
use Rattle.office_core.proofs.Room.{placed, household_next, room_there}
use Rattle.office_core.proofs.office.Office.reserve.Goals as goal

pub reserve_register-requires : goal.reserve_register-requires
reserve_register-requires c =
    rw (c.reserve_tables.ensures.book, c.household_of.ensures) (household_next (known_of c.args.self.now.book) c.step.inside.batch.made
    (placed c.args.self.now.capacity c.args.self.now.book _ (rw (← c.step.view_is) at c.requires) c.appended_is_accepted.ensures.accepted c.next_records.ensures))

pub returns-clause-room : goal.returns-clause-room
returns-clause-room c =
    rw (← c.step.view_is) (record {
      tables = rw (c.reserve_requests.ensures.tables, c.reserve_register.ensures.tables) c.in_ok-reserve_tables.ensures.room;
      acts = rw c.reserve_requests.ensures.acts c.in_ok-reserve_register.ensures.acts;
      records =
          room_there (known_of c.args.self.now.book) c.step.inside.batch.made c.household_of.result c.reserve_requests.new.self.room.records
          (placed c.args.self.now.capacity c.args.self.now.book _ (rw (← c.step.view_is) at c.requires) c.appended_is_accepted.ensures.accepted c.next_records.ensures)
          c.household_of.ensures (rw c.reserve_requests.ensures.records c.in_ok-reserve_register.ensures.records);
      requests = c.in_ok-reserve_requests.ensures.requests;
    })
