-- The acts but for the closings.
use Rattle.std.proofs.Common.{◌≡◌, ◌∙◌, ap, refl, ℕ, arith, Some, None}
use Rattle.record_history.specs.Records.{live_records}
unfoldable use Rattle.tenancy_rules.specs.Order.{is_out_of_order}
use Rattle.office_step.specs.{declared.rightful.Rightful.Rightful, Matter.matter_of, Made.record_of, Known.own_in, Refusals.interim_right, Refusals.corrected_right, Against.right_of}
use Rattle.manual_acts.specs.Year.{started, raised, corrected, certified_anew, admitted}
use Rattle.manual_acts.proofs.year.Known.{known_0, known_1, known_2, known_3, known_5, known_6, known_7, known_8, known_9, known_12, known_14, known_21, known_25, act_1, act_2, act_3, act_4, act_6, act_7, act_8, act_9, act_10, act_13, act_15, act_22, act_26}
use Rattle.manual_acts.proofs.{Apart.not_taken, Goes.Goes, Goes.past, Goes.alone_fits}
use Rattle.manual_acts.proofs.Tests.{on_right_day, any_day, right_by_payment}
use Rattle.manual_acts.proofs.Rightful.{anniversary_2025, after_february}
use Rattle.manual_acts.proofs.Days.{first_1728, month_26814, month_36524, month_52595, month_52655, month_52961}

-- ---- the property and the waiting list

pub goes_1 : Goes known_0 (past 0 0 0) act_1
goes_1 = record {
  ready = refl;
  holdable = tt;
  passes = record { plain = refl; days = refl; right = refl; apart = refl; next = refl; rents = refl; annuals = refl };
  made = refl;
  lines = refl;
  reply = refl;
}

pub goes_2 : Goes known_1 (past 0 52596 1) act_2
goes_2 = record {
  ready = refl;
  holdable = tt;
  passes = record { plain = refl; days = refl; right = refl; apart = refl; next = refl; rents = refl; annuals = refl };
  made = refl;
  lines = refl;
  reply = refl;
}

pub goes_3 : Goes known_2 (past 0 52596 2) act_3
goes_3 = record {
  ready = refl;
  holdable = omega arith;
  passes = record { plain = refl; days = refl; right = refl; apart = refl; next = refl; rents = refl; annuals = refl };
  made = refl;
  lines = refl;
  reply = refl;
}

pub goes_6 : Goes known_5 (past 1 52625 6) act_6
goes_6 = record {
  ready = refl;
  holdable = tt;
  passes = record { plain = refl; days = refl; right = refl; apart = refl; next = refl; rents = refl; annuals = refl };
  made = refl;
  lines = refl;
  reply = refl;
}

pub goes_7 : Goes known_6 (past 1 52630 7) act_7
goes_7 = record {
  ready = refl;
  holdable = omega arith;
  passes = record { plain = refl; days = refl; right = refl; apart = refl; next = refl; rents = refl; annuals = refl };
  made = refl;
  lines = refl;
  reply = refl;
}

pub goes_8 : Goes known_7 (past 1 52630 8) act_8
goes_8 = record {
  ready = refl;
  holdable = tt;
  passes = record { plain = refl; days = refl; right = refl; apart = refl; next = refl; rents = refl; annuals = refl };
  made = refl;
  lines = refl;
  reply = refl;
}

pub goes_9 : Goes known_8 (past 1 52630 9) act_9
goes_9 = record {
  ready = refl;
  holdable = tt;
  passes = record { plain = refl; days = refl; right = refl; apart = refl; next = refl; rents = refl; annuals = refl };
  made = refl;
  lines = refl;
  reply = refl;
}

-- ---- households

made_4 : record_of known_3 act_4.asked ≡ Some started
made_4 = rw (month_52595, month_26814) refl

pub goes_4 : Goes known_3 (past 0 52596 3) act_4
goes_4 = record {
  ready = refl;
  holdable = (omega arith, omega arith, alone_fits 26814 _ 9600 1000 (omega arith) (omega arith) (omega arith));
  passes = record { plain = refl; days = rw first_1728 refl; right = refl; apart = not_taken (matter_of known_3 act_4.asked) started refl; next = refl; rents = refl; annuals = refl };
  made = made_4;
  lines = refl;
  reply = refl;
}

made_10 : record_of known_9 act_10.asked ≡ Some admitted
made_10 = rw (month_52655, month_36524) refl

pub goes_10 : Goes known_9 (past 1 52630 10) act_10
goes_10 = record {
  ready = refl;
  holdable = (omega arith, omega arith, omega arith, alone_fits 36524 _ 9000 0 (omega arith) (omega arith) (omega arith));
  passes = record { plain = refl; days = rw first_1728 refl; right = refl; apart = not_taken (matter_of known_9 act_10.asked) admitted refl; next = refl; rents = refl; annuals = refl };
  made = made_10;
  lines = refl;
  reply = refl;
}

made_13 : record_of known_12 act_13.asked ≡ Some raised
made_13 = rw (month_52655, month_26814) refl

right_13 : right_of (matter_of known_12 act_13.asked) None ≡ Rightful.Only (Some 52655)
right_13 =
    right_by_payment (matter_of known_12 act_13.asked) raised _ (interim_right (live_records (own_in known_12 1)) (record { event = 52635; notice = 52697; done = 52700 })) made_13 refl
    ∙ ap (λ (day : ℕ). Rightful.Only (Some day)) after_february

pub goes_13 : Goes known_12 (past 4 52683 13) act_13
unfolding is_out_of_order
goes_13 = record {
  ready = refl;
  holdable = (omega arith, omega arith, (record { event = omega arith; notice = omega arith; done = omega arith }, omega arith, alone_fits 26814 _ 11520 1000 (omega arith) (omega arith) (omega arith)));
  passes = record { plain = refl; days = rw first_1728 refl; right = on_right_day (matter_of known_12 act_13.asked) 52655 refl right_13; apart = refl; next = refl; rents = refl; annuals = refl };
  made = made_13;
  lines = refl;
  reply = refl;
}

made_15 : record_of known_14 act_15.asked ≡ Some corrected
made_15 = rw (month_52655, month_36524) refl

right_15 : right_of (matter_of known_14 act_15.asked) (Some 1) ≡ Rightful.Any
right_15 = right_by_payment (matter_of known_14 act_15.asked) corrected _ (corrected_right (own_in known_14 2) admitted) made_15 refl

pub goes_15 : Goes known_14 (past 7 52715 15) act_15
unfolding is_out_of_order
goes_15 = record {
  ready = refl;
  holdable = (omega arith, omega arith, (omega arith, omega arith, alone_fits 36524 _ 8400 0 (omega arith) (omega arith) (omega arith)));
  passes = record { plain = refl; days = rw first_1728 refl; right = any_day (matter_of known_14 act_15.asked) right_15; apart = not_taken (matter_of known_14 act_15.asked) corrected refl; next = refl; rents = refl; annuals = refl };
  made = made_15;
  lines = refl;
  reply = refl;
}

made_22 : record_of known_21 act_22.asked ≡ Some certified_anew
made_22 = rw (month_52961, month_26814) refl

pub goes_22 : Goes known_21 (past 21 52899 22) act_22
unfolding is_out_of_order
goes_22 = record {
  ready = refl;
  holdable = (omega arith, omega arith, (omega arith, alone_fits 26814 _ 11800 900 (omega arith) (omega arith) (omega arith)));
  passes = record { plain = refl; days = rw first_1728 refl; right = on_right_day (matter_of known_21 act_22.asked) 52961 refl (ap (λ (day : ℕ). Rightful.Only (Some day)) anniversary_2025); apart = refl; next = refl; rents = refl; annuals = refl };
  made = made_22;
  lines = refl;
  reply = refl;
}

pub goes_26 : Goes known_25 (past 27 52991 26) act_26
unfolding is_out_of_order
goes_26 = record {
  ready = refl;
  holdable = (omega arith, omega arith, omega arith);
  passes = record { plain = refl; days = rw first_1728 refl; right = refl; apart = refl; next = refl; rents = refl; annuals = refl };
  made = refl;
  lines = refl;
  reply = refl;
}
