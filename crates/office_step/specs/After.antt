-- What an office knows once one more act is there.
use Rattle.std.specs.Prelude.{ℕ, ◌+◌, ◌-◌, not, Option, Some, None, List, [], ◌∷◌, ◌++◌, length, map, filter, option_to_list, slice_set}
use Rattle.std.specs.Option.{option_map, option_map_or, option_or}
use Rattle.record_history.specs.{declared.records.Record.Record, Held.with_record}
use Rattle.wait_list.specs.declared.applicant.Applicant.{Applicant}
use Rattle.book_rows.specs.declared.{applicants.ApplyAct.ApplyAct, command.Command.Command}
use Rattle.office_step.specs.{declared.known.Request.Request, Known.Known, Known.own_in, Households.continued, Basis.basis_of, Eligible.eligible_by}
use Rattle.office_step.specs.Acts.{plan_in, unit_in, unit_row, rents_in, rent_row, limits_in, limit_row, apply_in, application_by, applicant_of, ranks_of, takes_off_list, name_given, request_by, closing_of}

-- the number of the next act
abbrev pub next_act : Known → ℕ
next_act known = known.count + 1

-- who applies by the act
abbrev pub applying : Known → ApplyAct → Applicant
applying known apply =
    applicant_of (ranks_of known.plan) (length known.applications + 1) (application_by (next_act known) apply)

-- those who wait: without whom the act takes off, and with who applies
abbrev pub waiting_after : Known → Command → List Applicant
waiting_after known asked =
    filter (λ applicant. not (takes_off_list applicant.number asked)) known.waiting
    ++ option_to_list (option_map (applying known) (apply_in asked))

-- the names of the household that the act makes, if it makes one
abbrev pub names_given : Known → Command → List (List ℕ)
names_given known asked = option_to_list (name_given known.applications asked)

-- each household's records: with a list for the one that the act makes, and the record made in its place
abbrev pub households_after : Known → Command → Option Record → List (List Record)
households_after known asked made = held (known.households ++ map (λ name. []) (names_given known asked)) made
  where
    held : List (List Record) → Option Record → List (List Record)
    held households None = households
    held households (Some r) = with_record households r

-- what each household said of another unit
abbrev pub requests_after : Known → Command → List (Option Request)
requests_after known (Command.AskTransfer ask) =
    slice_set known.requests (ask.household - 1) (Some (request_by (next_act known) ask))
requests_after known asked = known.requests ++ map (λ name. None) (names_given known asked)

-- the eligible members of the record that the act makes, and 0 if it makes none
abbrev pub eligible_next : Known → Command → Option Record → ℕ
eligible_next known asked made =
    option_map_or (λ r. eligible_by known.eligible (continued (own_in known r.household) r.from) (basis_of asked)) made 0

-- what is known after an act of that command, which made that record or none
abbrev pub known_after : Known → Command → Option Record → Known
known_after known asked made = record {
  count = next_act known;
  plan = option_or known.plan (plan_in asked);
  plan_act = option_or known.plan_act (option_map (λ plan. next_act known) (plan_in asked));
  units = known.units ++ option_to_list (option_map (unit_row (length known.units + 1)) (unit_in asked));
  rents = known.rents ++ option_to_list (option_map (rent_row (next_act known)) (rents_in asked));
  limits = known.limits ++ option_to_list (option_map (limit_row (next_act known)) (limits_in asked));
  applications = known.applications ++ option_to_list (option_map (application_by (next_act known)) (apply_in asked));
  waiting = waiting_after known asked;
  names = known.names ++ names_given known asked;
  households = households_after known asked made;
  requests = requests_after known asked;
  eligible = known.eligible ++ eligible_next known asked made ∷ [];
  closing = option_or (closing_of (record { n = next_act known; command = asked })) known.closing;
}
