-- The closings.
use Rattle.std.proofs.Common.{◌≡◌, refl, arith}
use Rattle.office_step.specs.{Known.own_in, Made.lines_of}
use Rattle.manual_acts.specs.Page.{january_lines, february_lines, march_lines}
use Rattle.manual_acts.proofs.page.Known.{known_11, known_12, known_15, act_12, act_13, act_16}
use Rattle.manual_acts.proofs.{Goes.Goes, Goes.past, ByMonths.by_begins, Settled.settled, Settled.recent}

lines_12 : lines_of known_11 act_12.asked ≡ january_lines
lines_12 = by_begins (own_in known_11) 2 (record { closed = 1728; first_month = 1728; last_close = 0; act = 12 })

pub goes_12 : Goes known_11 (past 0 52616 11) act_12
goes_12 = record {
  ready = refl;
  holdable = omega arith;
  passes = record { plain = refl; days = refl; right = refl; apart = refl; next = refl; rents = settled known_11 1728 refl; annuals = recent known_11 1728 (omega arith) refl };
  made = refl;
  lines = lines_12;
  reply = refl;
}

lines_13 : lines_of known_12 act_13.asked ≡ february_lines
lines_13 = by_begins (own_in known_12) 2 (record { closed = 1729; first_month = 1728; last_close = 12; act = 13 })

pub goes_13 : Goes known_12 (past 1 52625 12) act_13
goes_13 = record {
  ready = refl;
  holdable = omega arith;
  passes = record { plain = refl; days = refl; right = refl; apart = refl; next = refl; rents = settled known_12 1729 refl; annuals = recent known_12 1729 (omega arith) refl };
  made = refl;
  lines = lines_13;
  reply = refl;
}

lines_16 : lines_of known_15 act_16.asked ≡ march_lines
lines_16 = by_begins (own_in known_15) 2 (record { closed = 1730; first_month = 1728; last_close = 13; act = 16 })

pub goes_16 : Goes known_15 (past 3 52674 15) act_16
goes_16 = record {
  ready = refl;
  holdable = omega arith;
  passes = record { plain = refl; days = refl; right = refl; apart = refl; next = refl; rents = settled known_15 1730 refl; annuals = recent known_15 1730 (omega arith) refl };
  made = refl;
  lines = lines_16;
  reply = refl;
}
