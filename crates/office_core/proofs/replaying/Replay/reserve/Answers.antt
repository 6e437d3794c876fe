use Rattle.office_answers.specs.Below.office_step.Known.{known_of}
use Rattle.office_core.proofs.Room.{placed, household_next, room_there}
use Rattle.office_core.proofs.replaying.Replay.reserve.Goals as goal

pub reserve-requires : goal.reserve-requires
reserve-requires g c =
    rw (c.requires.0.known, c.household_of.ensures) (household_next (known_of g.book) c.step.inside.batch.made
    (placed c.args.self.now.capacity g.book _ (rw (← c.step.view_is) at c.requires.1) c.appended_is_accepted.ensures.accepted c.next_records.ensures))

pub returns-clause-room : goal.returns-clause-room
returns-clause-room g c =
    rw (← c.step.view_is) (record {
      acts = c.in_ok-reserve.ensures.room;
      records =
          room_there (known_of g.book) c.step.inside.batch.made c.household_of.result c.reserve.new.self.record_room
          (placed c.args.self.now.capacity g.book _ (rw (← c.step.view_is) at c.requires.1) c.appended_is_accepted.ensures.accepted c.next_records.ensures)
          c.household_of.ensures c.in_ok-reserve.ensures.record_room;
      requests = c.in_ok-reserve-2.ensures.room;
    })
