-- The closings of January to July.
use Rattle.std.proofs.Common.{◌≡◌, refl, arith}
use Rattle.office_step.specs.{Known.own_in, Made.lines_of}
use Rattle.manual_acts.specs.Year.{january_lines, february_lines, march_lines, april_lines, may_lines, june_lines, july_lines}
use Rattle.manual_acts.proofs.year.Known.{known_4, known_10, known_11, known_13, known_15, known_16, known_17, act_5, act_11, act_12, act_14, act_16, act_17, act_18}
use Rattle.manual_acts.proofs.{Goes.Goes, Goes.past, ByMonths.by_begins, Settled.settled, Settled.recent}

lines_5 : lines_of known_4 act_5.asked ≡ january_lines
lines_5 = by_begins (own_in known_4) 1 (record { closed = 1728; first_month = 1728; last_close = 0; act = 5 })

pub goes_5 : Goes known_4 (past 0 52596 4) act_5
goes_5 = record {
  ready = refl;
  holdable = omega arith;
  passes = record { plain = refl; days = refl; right = refl; apart = refl; next = refl; rents = settled known_4 1728 refl; annuals = recent known_4 1728 (omega arith) refl };
  made = refl;
  lines = lines_5;
  reply = refl;
}

lines_11 : lines_of known_10 act_11.asked ≡ february_lines
lines_11 = by_begins (own_in known_10) 2 (record { closed = 1729; first_month = 1728; last_close = 5; act = 11 })

pub goes_11 : Goes known_10 (past 1 52645 11) act_11
goes_11 = record {
  ready = refl;
  holdable = omega arith;
  passes = record { plain = refl; days = refl; right = refl; apart = refl; next = refl; rents = settled known_10 1729 refl; annuals = recent known_10 1729 (omega arith) refl };
  made = refl;
  lines = lines_11;
  reply = refl;
}

lines_12 : lines_of known_11 act_12.asked ≡ march_lines
lines_12 = by_begins (own_in known_11) 2 (record { closed = 1730; first_month = 1728; last_close = 11; act = 12 })

pub goes_12 : Goes known_11 (past 2 52654 12) act_12
goes_12 = record {
  ready = refl;
  holdable = omega arith;
  passes = record { plain = refl; days = refl; right = refl; apart = refl; next = refl; rents = settled known_11 1730 refl; annuals = recent known_11 1730 (omega arith) refl };
  made = refl;
  lines = lines_12;
  reply = refl;
}

lines_14 : lines_of known_13 act_14.asked ≡ april_lines
lines_14 = by_begins (own_in known_13) 2 (record { closed = 1731; first_month = 1728; last_close = 12; act = 14 })

pub goes_14 : Goes known_13 (past 4 52700 14) act_14
goes_14 = record {
  ready = refl;
  holdable = omega arith;
  passes = record { plain = refl; days = refl; right = refl; apart = refl; next = refl; rents = settled known_13 1731 refl; annuals = recent known_13 1731 (omega arith) refl };
  made = refl;
  lines = lines_14;
  reply = refl;
}

lines_16 : lines_of known_15 act_16.asked ≡ may_lines
lines_16 = by_begins (own_in known_15) 2 (record { closed = 1732; first_month = 1728; last_close = 14; act = 16 })

pub goes_16 : Goes known_15 (past 7 52725 16) act_16
goes_16 = record {
  ready = refl;
  holdable = omega arith;
  passes = record { plain = refl; days = refl; right = refl; apart = refl; next = refl; rents = settled known_15 1732 refl; annuals = recent known_15 1732 (omega arith) refl };
  made = refl;
  lines = lines_16;
  reply = refl;
}

lines_17 : lines_of known_16 act_17.asked ≡ june_lines
lines_17 = by_begins (own_in known_16) 2 (record { closed = 1733; first_month = 1728; last_close = 16; act = 17 })

pub goes_17 : Goes known_16 (past 11 52746 17) act_17
goes_17 = record {
  ready = refl;
  holdable = omega arith;
  passes = record { plain = refl; days = refl; right = refl; apart = refl; next = refl; rents = settled known_16 1733 refl; annuals = recent known_16 1733 (omega arith) refl };
  made = refl;
  lines = lines_17;
  reply = refl;
}

lines_18 : lines_of known_17 act_18.asked ≡ july_lines
lines_18 = by_begins (own_in known_17) 2 (record { closed = 1734; first_month = 1728; last_close = 17; act = 18 })

pub goes_18 : Goes known_17 (past 13 52774 18) act_18
goes_18 = record {
  ready = refl;
  holdable = omega arith;
  passes = record { plain = refl; days = refl; right = refl; apart = refl; next = refl; rents = settled known_17 1734 refl; annuals = recent known_17 1734 (omega arith) refl };
  made = refl;
  lines = lines_18;
  reply = refl;
}
