-- The acts on households.
use Rattle.std.proofs.Common.{◌≡◌, ◌∙◌, ap, refl, ℕ, arith, [], ◌∷◌, Some, None}
use Rattle.days_core.specs.OfficeDays.{last_office_day}
use Rattle.record_history.specs.Records.{live_records}
use Rattle.due_dates.specs.Stale.{gross_day_of}
unfoldable use Rattle.tenancy_rules.specs.Order.{is_out_of_order}
use Rattle.office_step.specs.{declared.rightful.Rightful.Rightful, Matter.matter_of, Made.record_of, Known.own_in, Refusals.interim_right, Refusals.corrected_right, Against.right_of}
use Rattle.manual_acts.specs.Records.{started, raised, corrected, withdrawn, certified_anew, admitted, transferred, resumed}
use Rattle.manual_acts.proofs.page.Known.{known_13, known_14, known_16, known_17, known_18, known_19, known_20, known_21, known_22, known_23, known_24, known_25, act_14, act_15, act_17, act_18, act_19, act_20, act_21, act_22, act_23, act_24, act_25, act_26}
use Rattle.manual_acts.proofs.{Apart.not_taken, Goes.Goes, Goes.past, Goes.alone_fits}
use Rattle.manual_acts.proofs.Rents.{rent_due_day, in_order-one}
use Rattle.manual_acts.proofs.Tests.{on_right_day, any_day, right_by_payment}
use Rattle.manual_acts.proofs.Rightful.{anniversary_2025, start_april, after_march}
use Rattle.manual_acts.proofs.Days.{first_1728, month_26814, month_36524, month_52595, month_52626, month_52686, month_52961, month_53051}

-- ---- an interim, a correction and a withdrawal

made_14 : record_of known_13 act_14.asked ≡ Some raised
made_14 = rw (month_52686, month_26814) refl

right_14 : right_of (matter_of known_13 act_14.asked) None ≡ Rightful.Only (Some 52686)
right_14 =
    right_by_payment (matter_of known_13 act_14.asked) raised _ (interim_right (live_records (own_in known_13 1)) (record { event = 52635; notice = 52645; done = 52659 })) made_14 refl
    ∙ ap (λ (day : ℕ). Rightful.Only (Some day)) start_april

pub goes_14 : Goes known_13 (past 3 52654 13) act_14
unfolding is_out_of_order
goes_14 = record {
  ready = refl;
  holdable = (omega arith, omega arith, (record { event = omega arith; notice = omega arith; done = omega arith }, omega arith, alone_fits 26814 _ 11520 1000 (omega arith) (omega arith) (omega arith)));
  passes = record { plain = refl; days = rw first_1728 refl; right = on_right_day (matter_of known_13 act_14.asked) 52686 refl right_14; apart = refl; next = refl; rents = refl; annuals = refl };
  made = made_14;
  lines = refl;
  reply = refl;
}

made_15 : record_of known_14 act_15.asked ≡ Some corrected
made_15 = rw (month_52595, month_26814) refl

right_15 : right_of (matter_of known_14 act_15.asked) (Some 1) ≡ Rightful.Any
right_15 = right_by_payment (matter_of known_14 act_15.asked) corrected _ (corrected_right (own_in known_14 1) started) made_15 refl

pub goes_15 : Goes known_14 (past 3 52659 14) act_15
unfolding is_out_of_order
goes_15 = record {
  ready = refl;
  holdable = (omega arith, omega arith, (omega arith, omega arith, alone_fits 26814 _ 9600 1200 (omega arith) (omega arith) (omega arith)));
  passes = record { plain = refl; days = rw first_1728 refl; right = any_day (matter_of known_14 act_15.asked) right_15; apart = not_taken (matter_of known_14 act_15.asked) corrected refl; next = refl; rents = refl; annuals = refl };
  made = made_15;
  lines = refl;
  reply = refl;
}

pub goes_17 : Goes known_16 (past 7 52683 16) act_17
unfolding is_out_of_order
goes_17 = record {
  ready = refl;
  holdable = (omega arith, omega arith, omega arith);
  passes = record { plain = refl; days = refl; right = refl; apart = not_taken (matter_of known_16 act_17.asked) withdrawn refl; next = refl; rents = refl; annuals = refl };
  made = refl;
  lines = refl;
  reply = refl;
}

-- ---- new rents

pub goes_18 : Goes known_17 (past 7 52683 17) act_18
goes_18 = record {
  ready = refl;
  holdable = omega arith;
  passes = record { plain = refl; days = refl; right = refl; apart = refl; next = refl; rents = refl; annuals = refl };
  made = refl;
  lines = refl;
  reply = refl;
}

right_19 : gross_day_of (own_in known_18 1) known_18.units known_18.rents ≡ Some 52777
right_19 = rent_due_day (own_in known_18 1) (corrected ∷ []) known_18.units known_18.rents 0 last_office_day (in_order-one corrected)

pub goes_19 : Goes known_18 (past 7 52756 18) act_19
unfolding is_out_of_order
goes_19 = record {
  ready = refl;
  holdable = (omega arith, omega arith, omega arith);
  passes = record { plain = refl; days = rw first_1728 refl; right = on_right_day (matter_of known_18 act_19.asked) 52777 refl (ap Rightful.Only right_19); apart = refl; next = refl; rents = refl; annuals = refl };
  made = refl;
  lines = refl;
  reply = refl;
}

right_20 : gross_day_of (own_in known_19 2) known_19.units known_19.rents ≡ Some 52777
right_20 = rent_due_day (own_in known_19 2) (admitted ∷ []) known_19.units known_19.rents 0 last_office_day (in_order-one admitted)

pub goes_20 : Goes known_19 (past 7 52756 19) act_20
unfolding is_out_of_order
goes_20 = record {
  ready = refl;
  holdable = (omega arith, omega arith, omega arith);
  passes = record { plain = refl; days = rw first_1728 refl; right = on_right_day (matter_of known_19 act_20.asked) 52777 refl (ap Rightful.Only right_20); apart = refl; next = refl; rents = refl; annuals = refl };
  made = refl;
  lines = refl;
  reply = refl;
}

-- ---- an annual

made_21 : record_of known_20 act_21.asked ≡ Some certified_anew
made_21 = rw (month_52961, month_26814) refl

pub goes_21 : Goes known_20 (past 7 52756 20) act_21
unfolding is_out_of_order
goes_21 = record {
  ready = refl;
  holdable = (omega arith, omega arith, (omega arith, alone_fits 26814 _ 11520 1000 (omega arith) (omega arith) (omega arith)));
  passes = record { plain = refl; days = rw first_1728 refl; right = on_right_day (matter_of known_20 act_21.asked) 52961 refl (ap (λ (day : ℕ). Rightful.Only (Some day)) anniversary_2025); apart = refl; next = refl; rents = refl; annuals = refl };
  made = made_21;
  lines = refl;
  reply = refl;
}

-- ---- another unit

pub goes_22 : Goes known_21 (past 7 52919 21) act_22
goes_22 = record {
  ready = refl;
  holdable = omega arith;
  passes = record { plain = refl; days = refl; right = refl; apart = refl; next = refl; rents = refl; annuals = refl };
  made = refl;
  lines = refl;
  reply = refl;
}

pub goes_23 : Goes known_22 (past 7 52931 22) act_23
unfolding is_out_of_order
goes_23 = record {
  ready = refl;
  holdable = (omega arith, omega arith, (omega arith, omega arith));
  passes = record { plain = refl; days = rw first_1728 refl; right = refl; apart = not_taken (matter_of known_22 act_23.asked) transferred refl; next = rw (month_52626, month_52961) refl; rents = refl; annuals = refl };
  made = refl;
  lines = refl;
  reply = refl;
}

-- ---- assistance ends, begins again

pub goes_24 : Goes known_23 (past 7 52938 23) act_24
unfolding is_out_of_order
goes_24 = record {
  ready = refl;
  holdable = (omega arith, omega arith, omega arith);
  passes = record { plain = refl; days = rw first_1728 refl; right = refl; apart = refl; next = refl; rents = refl; annuals = refl };
  made = refl;
  lines = refl;
  reply = refl;
}

made_25 : record_of known_24 act_25.asked ≡ Some resumed
made_25 = rw (month_53051, month_36524) refl

pub goes_25 : Goes known_24 (past 7 53001 24) act_25
unfolding is_out_of_order
goes_25 = record {
  ready = refl;
  holdable = (omega arith, omega arith, (omega arith, omega arith, alone_fits 36524 _ 9000 0 (omega arith) (omega arith) (omega arith)));
  passes = record { plain = refl; days = rw first_1728 refl; right = on_right_day (matter_of known_24 act_25.asked) 53051 refl (ap (λ (day : ℕ). Rightful.Only (Some day)) after_march); apart = not_taken (matter_of known_24 act_25.asked) resumed refl; next = refl; rents = refl; annuals = refl };
  made = made_25;
  lines = refl;
  reply = refl;
}

pub goes_26 : Goes known_25 (past 7 53039 25) act_26
unfolding is_out_of_order
goes_26 = record {
  ready = refl;
  holdable = (omega arith, omega arith, omega arith);
  passes = record { plain = refl; days = rw first_1728 refl; right = refl; apart = refl; next = refl; rents = refl; annuals = refl };
  made = refl;
  lines = refl;
  reply = refl;
}
