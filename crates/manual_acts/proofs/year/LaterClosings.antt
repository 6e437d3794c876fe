-- The closings of August to the next February.
use Rattle.std.proofs.Common.{◌≡◌, refl, arith}
use Rattle.office_step.specs.{Known.own_in, Made.lines_of}
use Rattle.manual_acts.specs.Year.{august_lines, september_lines, october_lines, november_lines, december_lines, january_2025_lines, february_2025_lines}
use Rattle.manual_acts.proofs.year.Known.{known_18, known_19, known_20, known_22, known_23, known_24, known_26, act_19, act_20, act_21, act_23, act_24, act_25, act_27}
use Rattle.manual_acts.proofs.{Goes.Goes, Goes.past, ByMonths.by_begins, Settled.settled, Settled.recent}

lines_19 : lines_of known_18 act_19.asked ≡ august_lines
lines_19 = by_begins (own_in known_18) 2 (record { closed = 1735; first_month = 1728; last_close = 18; act = 19 })

pub goes_19 : Goes known_18 (past 15 52807 19) act_19
goes_19 = record {
  ready = refl;
  holdable = omega arith;
  passes = record { plain = refl; days = refl; right = refl; apart = refl; next = refl; rents = settled known_18 1735 refl; annuals = recent known_18 1735 (omega arith) refl };
  made = refl;
  lines = lines_19;
  reply = refl;
}

lines_20 : lines_of known_19 act_20.asked ≡ september_lines
lines_20 = by_begins (own_in known_19) 2 (record { closed = 1736; first_month = 1728; last_close = 19; act = 20 })

pub goes_20 : Goes known_19 (past 17 52837 20) act_20
goes_20 = record {
  ready = refl;
  holdable = omega arith;
  passes = record { plain = refl; days = refl; right = refl; apart = refl; next = refl; rents = settled known_19 1736 refl; annuals = recent known_19 1736 (omega arith) refl };
  made = refl;
  lines = lines_20;
  reply = refl;
}

lines_21 : lines_of known_20 act_21.asked ≡ october_lines
lines_21 = by_begins (own_in known_20) 2 (record { closed = 1737; first_month = 1728; last_close = 20; act = 21 })

pub goes_21 : Goes known_20 (past 19 52868 21) act_21
goes_21 = record {
  ready = refl;
  holdable = omega arith;
  passes = record { plain = refl; days = refl; right = refl; apart = refl; next = refl; rents = settled known_20 1737 refl; annuals = recent known_20 1737 (omega arith) refl };
  made = refl;
  lines = lines_21;
  reply = refl;
}

lines_23 : lines_of known_22 act_23.asked ≡ november_lines
lines_23 = by_begins (own_in known_22) 2 (record { closed = 1738; first_month = 1728; last_close = 21; act = 23 })

pub goes_23 : Goes known_22 (past 21 52919 23) act_23
goes_23 = record {
  ready = refl;
  holdable = omega arith;
  passes = record { plain = refl; days = refl; right = refl; apart = refl; next = refl; rents = settled known_22 1738 refl; annuals = recent known_22 1738 (omega arith) refl };
  made = refl;
  lines = lines_23;
  reply = refl;
}

lines_24 : lines_of known_23 act_24.asked ≡ december_lines
lines_24 = by_begins (own_in known_23) 2 (record { closed = 1739; first_month = 1728; last_close = 23; act = 24 })

pub goes_24 : Goes known_23 (past 23 52928 24) act_24
goes_24 = record {
  ready = refl;
  holdable = omega arith;
  passes = record { plain = refl; days = refl; right = refl; apart = refl; next = refl; rents = settled known_23 1739 refl; annuals = recent known_23 1739 (omega arith) refl };
  made = refl;
  lines = lines_24;
  reply = refl;
}

lines_25 : lines_of known_24 act_25.asked ≡ january_2025_lines
lines_25 = by_begins (own_in known_24) 2 (record { closed = 1740; first_month = 1728; last_close = 24; act = 25 })

pub goes_25 : Goes known_24 (past 25 52960 25) act_25
goes_25 = record {
  ready = refl;
  holdable = omega arith;
  passes = record { plain = refl; days = refl; right = refl; apart = refl; next = refl; rents = settled known_24 1740 refl; annuals = recent known_24 1740 (omega arith) refl };
  made = refl;
  lines = lines_25;
  reply = refl;
}

lines_27 : lines_of known_26 act_27.asked ≡ february_2025_lines
lines_27 = by_begins (own_in known_26) 2 (record { closed = 1741; first_month = 1728; last_close = 25; act = 27 })

pub goes_27 : Goes known_26 (past 27 53008 27) act_27
goes_27 = record {
  ready = refl;
  holdable = omega arith;
  passes = record { plain = refl; days = refl; right = refl; apart = refl; next = refl; rents = settled known_26 1741 refl; annuals = recent known_26 1741 (omega arith) refl };
  made = refl;
  lines = lines_27;
  reply = refl;
}
