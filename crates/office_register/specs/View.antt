-- What the fields of a register come to.
use Rattle.std.specs.Prelude.{ℕ, ◌-◌, min, vec_len, vec_capacity}
use Rattle.office_refusals.specs.Below.office_step.Known.{Known}
use Rattle.office_register.specs.declared.register.Register.TheInside.{Inside}

abbrev pub known_in : Inside → Known
known_in register = record {
  count = register.count;
  plan = register.plan;
  plan_act = register.plan_act;
  units = register.table.units;
  rents = register.table.rents;
  limits = register.table.limits;
  applications = register.applications.items;
  waiting = register.list.applicants;
  names = register.names.items;
  households = register.tenancies.households;
  requests = register.requests.items;
  eligible = register.eligible.items;
  closing = register.closing;
}

-- for how many more rows of every sort there is room: as many as of the sort that has least
abbrev pub room_in : Inside → ℕ
room_in register =
    min register.list.room
    (min (min register.table.unit_room (min register.table.rent_room register.table.limit_room))
    (min (vec_capacity register.applications - vec_len register.applications)
    (min (vec_capacity register.names - vec_len register.names)
    (min (vec_capacity register.requests - vec_len register.requests)
    (min (vec_capacity register.annuals - vec_len register.annuals) (vec_capacity register.eligible - vec_len register.eligible))))))
