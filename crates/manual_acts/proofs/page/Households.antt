-- A household that lives there, and one that is admitted.
use Rattle.std.proofs.Common.{◌≡◌, refl, arith, Some}
use Rattle.office_step.specs.{Matter.matter_of, Made.record_of}
use Rattle.manual_acts.specs.Records.{started, admitted}
use Rattle.manual_acts.proofs.page.Known.{known_9, known_10, act_10, act_11}
use Rattle.manual_acts.proofs.{Apart.not_taken, Goes.Goes, Goes.past, Goes.alone_fits}
use Rattle.manual_acts.proofs.Days.{first_1728, month_26814, month_36524, month_52595, month_52626}

made_10 : record_of known_9 act_10.asked ≡ Some started
made_10 = rw (month_52595, month_26814) refl

pub goes_10 : Goes known_9 (past 0 52597 9) act_10
goes_10 = record {
  ready = refl;
  holdable = (omega arith, omega arith, alone_fits 26814 _ 9600 1000 (omega arith) (omega arith) (omega arith));
  passes = record { plain = refl; days = rw first_1728 refl; right = refl; apart = not_taken (matter_of known_9 act_10.asked) started refl; next = refl; rents = refl; annuals = refl };
  made = made_10;
  lines = refl;
  reply = refl;
}

made_11 : record_of known_10 act_11.asked ≡ Some admitted
made_11 = rw (month_52626, month_36524) refl

pub goes_11 : Goes known_10 (past 0 52597 10) act_11
goes_11 = record {
  ready = refl;
  holdable = (omega arith, omega arith, omega arith, alone_fits 36524 _ 9000 0 (omega arith) (omega arith) (omega arith));
  passes = record { plain = refl; days = rw first_1728 refl; right = refl; apart = not_taken (matter_of known_10 act_11.asked) admitted refl; next = refl; rents = refl; annuals = refl };
  made = made_11;
  lines = refl;
  reply = refl;
}
