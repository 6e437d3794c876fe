-- What acts say once there is one act more.
use Rattle.office_laws.proofs.Words.{◌≡◌, ◌+◌, arith, List, [], ◌∷◌, ◌++◌, Some, length, find-append, filter_map, option_to_list, is_some, option_map, option_or, ActRow, Command, command_in, Act, act_of, acts_of, plan_in, plan_of, plan_act, unit_in, unit_row, units_of, apply_in, application_by, applications_of, closing_of, last_closing, filter_map_more, common_steps, refl, ℕ, ◌-◌, true, eq-eqb, append-nil, length-append, Record, Application, at_number, takes_off_list, name_given, names_of, household_count, IsOneOf, NamesOnlyThose, filter_map-agree, slice_get-append}
use Rattle.office_laws.proofs.Lists.{first_in-append, last_in-append, numbered-append, length-numbered}

-- the acts of rows with one more, whose body is that of the command
pub acts-more : (rows : List ActRow) (row : ActRow) (asked : Command) → command_in row.body ≡ Some asked →
    acts_of (rows ++ row ∷ []) ≡ acts_of rows ++ record { n = row.n; command = asked } ∷ []
acts-more rows row asked is = grind (arith, common_steps, filter_map_more act_of rows row, is)

module _ (acts : List Act) (act : Act) where
  pub plan-more : plan_of (acts ++ act ∷ []) ≡ option_or (plan_of acts) (plan_in act.command)
  plan-more = rw (filter_map_more (λ act. plan_in act.command) acts act) (first_in-append _ (plan_in act.command))

  pub plan_act-more : plan_act (acts ++ act ∷ []) ≡ option_or (plan_act acts) (option_map (λ plan. act.n) (plan_in act.command))
  plan_act-more = grind (arith, common_steps, find-append (λ act. is_some (plan_in act.command)) acts (act ∷ []))

  pub units-more : units_of (acts ++ act ∷ []) ≡ units_of acts ++ option_to_list (option_map (unit_row (length (units_of acts) + 1)) (unit_in act.command))
  units-more =
      rw (filter_map_more (λ act. unit_in act.command) acts act)
      (numbered-append unit_row 1 _ (filter_map (λ act. unit_in act.command) acts) (unit_in act.command)
      (omega (arith, length-numbered unit_row 1 (filter_map (λ act. unit_in act.command) acts))))

  pub applications-more : applications_of (acts ++ act ∷ []) ≡ applications_of acts ++ option_to_list (option_map (application_by act.n) (apply_in act.command))
  applications-more = filter_map_more (λ act. option_map (application_by act.n) (apply_in act.command)) acts act

  pub closing-more : last_closing (acts ++ act ∷ []) ≡ option_or (closing_of act) (last_closing acts)
  closing-more = rw (filter_map_more closing_of acts act) (last_in-append (filter_map closing_of acts) (closing_of act))

-- ---- the names of households

at_number-append : {X : Type 0} (xs ys : List X) (number : ℕ) → IsOneOf (length xs) number → at_number (xs ++ ys) number ≡ at_number xs number
at_number-append xs ys number there = grind (arith, common_steps, slice_get-append xs ys (number - 1), there)

-- what applicants come later makes no other name, where the act admits one that is there
name-same : (applications more : List Application) (asked : Command) →
    ((number : ℕ) → takes_off_list number asked ≡ true → IsOneOf (length applications) number) →
    name_given (applications ++ more) asked ≡ name_given applications asked
name-same applications more (Command.Admit admit) there =
    rw (at_number-append applications more admit.applicant (there admit.applicant (eq-eqb admit.applicant admit.applicant refl))) refl
name-same applications more _ there = refl

-- the command that makes a household brings no applicant
name-alone : (applications : List Application) (act : ℕ) (asked : Command) →
    name_given (applications ++ option_to_list (option_map (application_by act) (apply_in asked))) asked ≡ name_given applications asked
name-alone applications act (Command.Admit admit) = rw (append-nil applications) refl
name-alone applications act _ = refl

pub names-more : (acts : List Act) (records : List Record) (act : Act) → NamesOnlyThose acts records →
    names_of (acts ++ act ∷ []) ≡ names_of acts ++ option_to_list (name_given (applications_of acts) act.command)
names-more acts records act only =
    let brought : List Application = option_to_list (option_map (application_by act.n) (apply_in act.command)) in
    let same = filter_map-agree (λ act. name_given (applications_of acts ++ brought) act.command) (λ act. name_given (applications_of acts) act.command) acts
    (λ k d within. name-same (applications_of acts) brought _ (only.off k d within)) in
    let more = filter_map_more (λ act. name_given (applications_of acts ++ brought) act.command) acts act in
    rw (applications-more acts act, more, same, name-alone (applications_of acts) act.n act.command) refl

pub count-more : (acts : List Act) (records : List Record) (act : Act) → NamesOnlyThose acts records →
    household_count (acts ++ act ∷ []) ≡ household_count acts + length (option_to_list (name_given (applications_of acts) act.command))
count-more acts records act only = rw (names-more acts records act only) (length-append (names_of acts) _)
