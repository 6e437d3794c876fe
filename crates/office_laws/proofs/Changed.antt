-- What is known of applicants, households and requests once there is one act more.
use Rattle.office_laws.proofs.Words.{◌≡◌, ◌∙◌, sym, ap₂, refl, ℕ, ◌+◌, ◌-◌, arith, Bool, false, not, ◌&&◌, List, [], ◌∷◌, ◌++◌, Option, Some, None, length, map, filter, filter_map, option_to_list, All, IfSome, ◌==◌, slice_set, list_any, range_with_len, option_map, option_or, false_from_ne_true, append-nil, filter-append, filter_agree, list_any-append, list_any_none, get_or-map-range_with_len, Record, records_of, with_record, Applicant, Command, Act, apply_in, application_by, applications_of, applicant_of, applicants_of, takes_off_list, ask_in, waiting_of, request_of, request_by, last_request, own_of, households_of, IsOneOf, NamesOnlyThose, map-agree, filter_none, filter-filter, filter_map_none, filter_map_more, common_steps, nat_tests, AskTransferAct}
use Rattle.office_laws.proofs.{Lists.numbered-append, Lists.map-set, Lists.map-longer, Lists.last_in-append, Grown.applications-more}

-- ---- applicants

module _ (acts : List Act) (records : List Record) (only : NamesOnlyThose acts records) (ranks : List ℕ) (n : ℕ) where
  abbrev longer : Command → List Act
  longer asked = acts ++ record { n = n; command = asked } ∷ []

  abbrev stays_by : List Act → Applicant → Bool
  stays_by acts applicant = not (list_any (λ act. takes_off_list applicant.number act.command) acts)

  abbrev next : ℕ
  next = length (applications_of acts) + 1

  -- who was there stays unless the act takes it off
  stays : (asked : Command) (applicant : Applicant) → stays_by (longer asked) applicant ≡ (stays_by acts applicant && not (takes_off_list applicant.number asked))
  stays asked applicant =
      grind (arith, common_steps, list_any-append (λ act. takes_off_list applicant.number act.command) acts (record { n = n; command = asked } ∷ []))

  -- nobody took off who comes next
  none_took : list_any (λ act. takes_off_list next act.command) acts ≡ false
  none_took =
      list_any_none (λ act. takes_off_list next act.command) acts (λ k d within.
      false_from_ne_true _ (λ takes. absurd (omega (arith, only.off k d within next takes))))

  comes : (asked : Command) → filter (stays_by (longer asked)) (option_to_list (option_map (applicant_of ranks next) (option_map (application_by n) (apply_in asked)))) ≡
      option_to_list (option_map (λ apply. applicant_of ranks next (application_by n apply)) (apply_in asked))
  comes (Command.Apply apply) = rw (stays (Command.Apply apply) (applicant_of ranks next (application_by n apply)), none_took) refl
  comes _ = refl

  pub waiting-more : (asked : Command) → waiting_of ranks (longer asked) ≡
      filter (λ applicant. not (takes_off_list applicant.number asked)) (waiting_of ranks acts)
      ++ option_to_list (option_map (λ apply. applicant_of ranks next (application_by n apply)) (apply_in asked))
  waiting-more asked =
      let applied = numbered-append (applicant_of ranks) 1 next (applications_of acts) (option_map (application_by n) (apply_in asked)) (omega arith) in
      rw (applications-more acts (record { n = n; command = asked }), applied)
      (filter-append (stays_by (longer asked)) (applicants_of ranks acts) _
      ∙ ap₂ (λ (were more : List Applicant). were ++ more)
      (filter_agree (stays_by (longer asked)) (λ applicant. stays_by acts applicant && not (takes_off_list applicant.number asked)) (stays asked) (applicants_of ranks acts)
      ∙ sym (filter-filter (λ applicant. not (takes_off_list applicant.number asked)) (stays_by acts) (applicants_of ranks acts)))
      (comes asked))

-- ---- the records of households

module _ (records : List Record) (count : ℕ) where
  -- the household that comes next has no record
  pub households-longer : All (λ r. IsOneOf count r.household) records → (name : Option (List ℕ)) →
      households_of records (count + length (option_to_list name)) ≡ households_of records count ++ map (λ name. []) (option_to_list name)
  households-longer held name =
      map-longer (own_of records) count name []
      (filter_none (λ (r : Record). r.household == count + 1) records (λ k d within. grind (arith, nat_tests, held k d within)))

  own_held : (household : ℕ) → IsOneOf count household → records_of (households_of records count) household ≡ own_of records household
  own_held household there =
      grind (arith, common_steps, there, get_or-map-range_with_len (own_of records) 1 count (household - 1) household [])

  pub households-held : (r : Record) → IsOneOf count r.household →
      households_of (records ++ r ∷ []) count ≡ with_record (households_of records count) r
  households-held r there =
      map-set (own_of (records ++ r ∷ [])) (own_of records) count r.household (records_of (households_of records count) r.household ++ r ∷ [])
      there.least there.most
      (grind (arith, common_steps, filter-append (λ (held : Record). held.household == r.household) records (r ∷ []), own_held r.household there))
      (λ other is. grind (arith, common_steps, filter-append (λ (held : Record). held.household == other) records (r ∷ []), append-nil, is))

-- ---- requests

-- the household that comes next has said nothing
not_said : (count n : ℕ) (asked : Command) → IfSome (ask_in asked) (λ ask. IsOneOf count ask.household) →
    request_of (count + 1) (record { n = n; command = asked }) ≡ None
not_said count n asked there = grind (arith, common_steps, nat_tests, there)

module _ (acts : List Act) (n : ℕ) where
  last_request-more : (asked : Command) (household : ℕ) → last_request (acts ++ record { n = n; command = asked } ∷ []) household ≡
      option_or (request_of household (record { n = n; command = asked })) (last_request acts household)
  last_request-more asked household =
      rw (filter_map_more (request_of household) acts (record { n = n; command = asked })) (last_in-append (filter_map (request_of household) acts) _)

  -- an act that asks for no other unit leaves what was said
  pub requests-longer : (asked : Command) (count : ℕ) → All (λ a. IfSome (ask_in a.command) (λ ask. IsOneOf count ask.household)) acts →
      ((household : ℕ) → request_of household (record { n = n; command = asked }) ≡ None) → (name : Option (List ℕ)) →
      map (last_request (acts ++ record { n = n; command = asked } ∷ [])) (range_with_len 1 (count + length (option_to_list name))) ≡
      map (last_request acts) (range_with_len 1 count) ++ map (λ name. None) (option_to_list name)
  requests-longer asked count there none name =
      map-agree (last_request (acts ++ record { n = n; command = asked } ∷ [])) (last_request acts)
      (λ household. rw (last_request-more asked household, none household) refl) (range_with_len 1 (count + length (option_to_list name)))
      ∙ map-longer (last_request acts) count name None
      (rw (filter_map_none (request_of (count + 1)) acts (λ k d within. not_said count _ _ (there k d within))) refl)

  -- what the household says last
  pub requests-said : (ask : AskTransferAct) (count : ℕ) → IsOneOf count ask.household →
      map (last_request (acts ++ record { n = n; command = Command.AskTransfer ask } ∷ [])) (range_with_len 1 count) ≡
      slice_set (map (last_request acts) (range_with_len 1 count)) (ask.household - 1) (Some (request_by n ask))
  requests-said ask count there =
      map-set (last_request (acts ++ record { n = n; command = Command.AskTransfer ask } ∷ [])) (last_request acts) count ask.household
      (Some (request_by n ask)) there.least there.most
      (grind (arith, common_steps, nat_tests, last_request-more (Command.AskTransfer ask) ask.household))
      (λ other is. grind (arith, common_steps, nat_tests, is, last_request-more (Command.AskTransfer ask) other))
