-- The acts on the property and on the waiting list.
use Rattle.std.proofs.Common.{refl, arith}
use Rattle.manual_acts.proofs.page.Known.{known_0, known_1, known_2, known_3, known_4, known_5, known_6, known_7, known_8, act_1, act_2, act_3, act_4, act_5, act_6, act_7, act_8, act_9}
use Rattle.manual_acts.proofs.Goes.{Goes, past}

pub goes_1 : Goes known_0 (past 0 0 0) act_1
goes_1 = record {
  ready = refl;
  holdable = tt;
  passes = record { plain = refl; days = refl; right = refl; apart = refl; next = refl; rents = refl; annuals = refl };
  made = refl;
  lines = refl;
  reply = refl;
}

pub goes_2 : Goes known_1 (past 0 52596 1) act_2
goes_2 = record {
  ready = refl;
  holdable = tt;
  passes = record { plain = refl; days = refl; right = refl; apart = refl; next = refl; rents = refl; annuals = refl };
  made = refl;
  lines = refl;
  reply = refl;
}

pub goes_3 : Goes known_2 (past 0 52596 2) act_3
goes_3 = record {
  ready = refl;
  holdable = tt;
  passes = record { plain = refl; days = refl; right = refl; apart = refl; next = refl; rents = refl; annuals = refl };
  made = refl;
  lines = refl;
  reply = refl;
}

pub goes_4 : Goes known_3 (past 0 52596 3) act_4
goes_4 = record {
  ready = refl;
  holdable = tt;
  passes = record { plain = refl; days = refl; right = refl; apart = refl; next = refl; rents = refl; annuals = refl };
  made = refl;
  lines = refl;
  reply = refl;
}

pub goes_5 : Goes known_4 (past 0 52596 4) act_5
goes_5 = record {
  ready = refl;
  holdable = omega arith;
  passes = record { plain = refl; days = refl; right = refl; apart = refl; next = refl; rents = refl; annuals = refl };
  made = refl;
  lines = refl;
  reply = refl;
}

pub goes_6 : Goes known_5 (past 0 52596 5) act_6
goes_6 = record {
  ready = refl;
  holdable = omega arith;
  passes = record { plain = refl; days = refl; right = refl; apart = refl; next = refl; rents = refl; annuals = refl };
  made = refl;
  lines = refl;
  reply = refl;
}

pub goes_7 : Goes known_6 (past 0 52596 6) act_7
goes_7 = record {
  ready = refl;
  holdable = tt;
  passes = record { plain = refl; days = refl; right = refl; apart = refl; next = refl; rents = refl; annuals = refl };
  made = refl;
  lines = refl;
  reply = refl;
}

pub goes_8 : Goes known_7 (past 0 52596 7) act_8
goes_8 = record {
  ready = refl;
  holdable = tt;
  passes = record { plain = refl; days = refl; right = refl; apart = refl; next = refl; rents = refl; annuals = refl };
  made = refl;
  lines = refl;
  reply = refl;
}

pub goes_9 : Goes known_8 (past 0 52596 8) act_9
goes_9 = record {
  ready = refl;
  holdable = omega arith;
  passes = record { plain = refl; days = refl; right = refl; apart = refl; next = refl; rents = refl; annuals = refl };
  made = refl;
  lines = refl;
  reply = refl;
}
