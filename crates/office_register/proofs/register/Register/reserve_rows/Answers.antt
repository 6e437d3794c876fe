use Rattle.std.proofs.Common.{◌-◌, ◌≤◌, arith}
use Rattle.std.specs.Prelude.{vec_len, vec_capacity}
use Rattle.office_register.proofs.Lists.{least_kept}
use Rattle.office_register.proofs.register.Register.reserve_rows.Goals as goal

pub returns-in_err-reserve-2-clause-kept : goal.returns-in_err-reserve-2-clause-kept
returns-in_err-reserve-2-clause-kept c =
    rw (← c.self.view_is)
    (omega (arith, c.reserve.ensures.room_kept, c.reserve-2.ensures.unit_room_kept, c.reserve-2.ensures.rent_room_kept, c.reserve-2.ensures.limit_room_kept))

pub returns-clause-kept : goal.returns-clause-kept
returns-clause-kept c =
    let applications : vec_capacity c.self.inside.applications - vec_len c.self.inside.applications ≤ vec_capacity c.reserve-3.new.self - vec_len c.reserve-3.new.self =
    omega (arith, c.reserve-3.ensures.len, c.reserve-3.ensures.capacity) in
    let names : vec_capacity c.self.inside.names - vec_len c.self.inside.names ≤ vec_capacity c.reserve-4.new.self - vec_len c.reserve-4.new.self =
    omega (arith, c.reserve-4.ensures.len, c.reserve-4.ensures.capacity) in
    let requests : vec_capacity c.self.inside.requests - vec_len c.self.inside.requests ≤ vec_capacity c.reserve-5.new.self - vec_len c.reserve-5.new.self =
    omega (arith, c.reserve-5.ensures.len, c.reserve-5.ensures.capacity) in
    let annuals : vec_capacity c.self.inside.annuals - vec_len c.self.inside.annuals ≤ vec_capacity c.reserve-6.new.self - vec_len c.reserve-6.new.self =
    omega (arith, c.reserve-6.ensures.len, c.reserve-6.ensures.capacity) in
    let eligible : vec_capacity c.self.inside.eligible - vec_len c.self.inside.eligible ≤ vec_capacity c.reserve-7.new.self - vec_len c.reserve-7.new.self =
    omega (arith, c.reserve-7.ensures.len, c.reserve-7.ensures.capacity) in
    rw (← c.self.view_is)
    (least_kept _ _ _ _ _ _ _ _ _ _ _ _ _ _ _ _ _ _ c.reserve.ensures.room_kept c.reserve-2.ensures.unit_room_kept c.reserve-2.ensures.rent_room_kept
    c.reserve-2.ensures.limit_room_kept applications names requests annuals eligible)
