-- What a household said last of another unit; and of two requests of one act both are of one household.
use Rattle.office_laws.proofs.Words.{◌≡◌, ◌∙◌, sym, ap, refl, subst, ℕ, ◌-◌, ◌<◌, ◌≤◌, arith, inl, inr, same_Some, List, [], ◌∷◌, Option, Some, None, length, get_or, get_or_default, filter_map, All, AllPairs, Contains, All-contains, All-weaker, All-nil, All-filter_map, AllPairs-filter_map, get_or-map-range_with_len, length-map-range_with_len, ActRow, Act, act_of, acts_of, request_of, request_by, last_request, last_in, requests_of, household_count, ask_in, Book, Capacity, IsReached, known_of, Command, command_in, AskTransferAct, IsOneOf, common_steps, nat_tests, option_map}
use Rattle.std.proofs.Common.{◌⊎◌}
use Rattle.std.specs.Prelude.{IfSome}
use Rattle.std.specs.List.{cons_option}
use Rattle.std.proofs.lemmas.{Bool.cases_lt, Option.none-some, List.get_or_past}
use Rattle.std.proofs.lemmas.List.Elements.{All-cons, All-contains_itself, Contains-get_or, Contains-append_right}
use Rattle.office_step.specs.{declared.known.Request.Request, Candidates.request_in}
use Rattle.office_step.proofs.Exactly.Options.{map-some, risen_key}
use Rattle.office_laws.specs.Requests.{SaysBy, SaidLast, RequestsAreLast}
use Rattle.office_laws.proofs.{AllSound.acts_rise, Reached.books_are_kept}

-- ---- what is given of a list

pub given_of : {X Y : Type 0} (h : X → Option Y) (xs : List X) (y : Y) → Contains (filter_map h xs) y → (x : X) × Contains xs x × (h x ≡ Some y)
given_of {X} {Y} h xs y held =
    All-contains (λ (y : Y). (x : X) × Contains xs x × (h x ≡ Some y)) (filter_map h xs) y
    (All-filter_map (Contains xs) (λ (y : Y). (x : X) × Contains xs x × (h x ≡ Some y)) h (λ x y is has. (x, has, is)) xs (All-contains_itself xs)) held

pub of_given : {X Y : Type 0} (h : X → Option Y) (xs : List X) (x : X) (y : Y) → Contains xs x → h x ≡ Some y → Contains (filter_map h xs) y
of_given {X} {Y} h xs x y held is = All-contains (λ (x : X). h x ≡ Some y → Contains (filter_map h xs) y) xs x (each xs) held is
  where
    later : (given : Option Y) (rest : List Y) → Contains rest y → Contains (cons_option given rest) y
    later None rest held = held
    later (Some other) rest held = Contains-append_right (other ∷ []) rest y held

    here : (given : Option Y) (rest : List Y) → given ≡ Some y → Contains (cons_option given rest) y
    here given rest is = subst (λ (given : Option Y). Contains (cons_option given rest) y) (sym is) (0, omega arith, refl)

    each : (xs : List X) → All (λ (x : X). h x ≡ Some y → Contains (filter_map h xs) y) xs
    each [] = All-nil (λ (x : X). h x ≡ Some y → Contains (filter_map h []) y)
    each (first ∷ xs) =
        All-cons (λ (x : X). h x ≡ Some y → Contains (filter_map h (first ∷ xs)) y) first xs (here (h first) (filter_map h xs))
        (All-weaker (λ (x : X). h x ≡ Some y → Contains (filter_map h xs) y) (λ (x : X). h x ≡ Some y → Contains (filter_map h (first ∷ xs)) y)
        (λ x held is. later (h first) (filter_map h xs) (held is)) xs (each xs))

-- ---- the last of a list

pub last_of : {X : Type 0} (x : X) (xs : List X) → last_in (x ∷ xs) ≡ Some (get_or (x ∷ xs) (length xs) x)
last_of x [] = refl
last_of x (next ∷ xs) = last_of next xs ∙ ap (λ (y : _). Some y) (get_or_default (next ∷ xs) (length xs) next x (omega arith))

last_held : {X : Type 0} (xs : List X) (x : X) → last_in xs ≡ Some x → Contains xs x
last_held [] x is = absurd (none-some x is)
last_held (first ∷ xs) x is =
    subst (Contains (first ∷ xs)) (same_Some (get_or (first ∷ xs) (length xs) first) x (sym (last_of first xs) ∙ is))
    (Contains-get_or (first ∷ xs) (length xs) first (omega arith))

none_held : {X : Type 0} (xs : List X) (x : X) → last_in xs ≡ None → ¬ Contains xs x
none_held [] x none held = absurd (omega (arith, held.1))
none_held (first ∷ xs) x none held = none-some (get_or (first ∷ xs) (length xs) first) (sym none ∙ last_of first xs)

-- where keys rise the last has the greatest
last_most : {X : Type 0} (key : X → ℕ) (xs : List X) → AllPairs (λ x next. key x < key next) xs → (last x : X) → last_in xs ≡ Some last → Contains xs x →
    key x ≤ key last
last_most key [] rise last x is held = absurd (omega (arith, held.1))
last_most key (first ∷ xs) rise last x is (k, within, same) =
    let end : get_or (first ∷ xs) (length xs) first ≡ last = same_Some (get_or (first ∷ xs) (length xs) first) last (sym (last_of first xs) ∙ is) in
    let this : get_or (first ∷ xs) k first ≡ x = get_or_default (first ∷ xs) k first x within ∙ same in
    elim (cases_lt k (length xs)) [
      | inl before ↦ omega (arith, rise k (length xs) first before (omega arith), ap key this, ap key end)
      | inr past ↦
          let place : k ≡ length xs = omega (arith, within, past) in
          omega (arith, ap key this, ap key end, ap (λ (n : ℕ). key (get_or (first ∷ xs) n first)) place)
    ]

-- ---- the act by which a household says something

asks : (command : Command) (ask : AskTransferAct) → ask_in command ≡ Some ask → command ≡ Command.AskTransfer ask
asks (Command.AskTransfer own) ask is = ap (λ (ask : AskTransferAct). Command.AskTransfer ask) (same_Some own ask is)
asks _ ask is = absurd (none-some ask is)

asked_by : (household : ℕ) (act : Act) (request : Request) → request_of household act ≡ Some request →
    (ask : AskTransferAct) × (ask_in act.command ≡ Some ask) × (ask.household ≡ household) × (request_by act.n ask ≡ request)
asked_by household act request is = by_ask (ask_in act.command) refl
  where
    by_ask : (asked : Option AskTransferAct) → ask_in act.command ≡ asked →
        (ask : AskTransferAct) × (ask_in act.command ≡ Some ask) × (ask.household ≡ household) × (request_by act.n ask ≡ request)
    by_ask None none = absurd (let nothing = rw none at is in cc nothing)
    by_ask (Some ask) some = (ask, some, grind (arith, common_steps, nat_tests, is, some), grind (arith, common_steps, nat_tests, is, some))

request_act : (household : ℕ) (act : Act) (request : Request) → request_of household act ≡ Some request → request.act ≡ act.n
request_act household act request is = sym (ap (λ (q : Request). q.act) (asked_by household act request is).3)

module _ (household : ℕ) (row : ActRow) (request : Request) where
  says : (act : Act) → act_of row ≡ Some act → request_of household act ≡ Some request → SaysBy row household request
  says act made is =
      let reads = map-some (λ (asked : Command). let act : Act = record { n = row.n; command = asked } in act) (command_in row.body) act made in
      let by = asked_by household act request is in
      let asked : reads.0 ≡ Command.AskTransfer by.0 = asks reads.0 by.0 (ap (λ (a : Act). ask_in a.command) (sym reads.2) ∙ by.1) in record {
        ask = by.0;
        reads = reads.1 ∙ ap (λ (c : Command). Some c) asked;
        household_is = by.2;
        act = sym (ap (λ (q : Request). q.act) by.3) ∙ ap (λ (a : Act). a.n) reads.2;
        wanted = sym (ap (λ (q : Request). q.wanted) by.3);
        accessible = sym (ap (λ (q : Request). q.accessible) by.3);
      }

  said_by : SaysBy row household request → (act : Act) × (act_of row ≡ Some act) × (request_of household act ≡ Some request)
  said_by is =
      let act : Act = record { n = row.n; command = Command.AskTransfer is.ask } in
      let n : row.n ≡ request.act = sym is.act in
      let wanted : is.ask.wanted ≡ request.wanted = sym is.wanted in
      let accessible : is.ask.accessible ≡ request.accessible = sym is.accessible in
      let given : request_of household act ≡ Some (request_by row.n is.ask) = grind (arith, common_steps, nat_tests, is.household_is) in
      let same : request_by row.n is.ask ≡ request = λ i. record { act = n i; wanted = wanted i; accessible = accessible i } in
      (act, ap (option_map (λ (asked : Command). let act : Act = record { n = row.n; command = asked } in act)) is.reads, given ∙ ap (λ (q : Request). Some q) same)

-- ---- what is known of a household

request_cases : (requests : List (Option Request)) (household : ℕ) → (request_in requests household ≡ None) ⊎ ((1 ≤ household) × (household ≤ length requests))
request_cases requests household = grind (arith, nat_tests, get_or_past)

module _ (acts : List Act) (household : ℕ) where
  at_place : 1 ≤ household → household ≤ household_count acts → request_in (requests_of acts) household ≡ last_request acts household
  at_place least most =
      let at = get_or-map-range_with_len (last_request acts) 1 (household_count acts) (household - 1) household None (omega (arith, least, most)) (omega (arith, least)) in
      grind (arith, common_steps, nat_tests, least, at)

  last_known : (request : Request) → request_in (requests_of acts) household ≡ Some request → last_request acts household ≡ Some request
  last_known request is = elim (request_cases (requests_of acts) household) [
    | inl none ↦ absurd (none-some request (sym none ∙ is))
    | inr there ↦ sym (at_place there.0 (omega (arith, there.1, length-map-range_with_len (last_request acts) 1 (household_count acts)))) ∙ is
  ]

  said : (request : Request) → last_request acts household ≡ Some request → (act : Act) × Contains acts act × (request_of household act ≡ Some request)
  said request is = given_of (request_of household) acts request (last_held (filter_map (request_of household) acts) request is)

module _ (capacity : Capacity) (book : Book) (reached : IsReached capacity book) where
  abbrev acts : List Act
  acts = acts_of book.acts

  rise : AllPairs (λ (act next : Act). act.n < next.n) (acts_of book.acts)
  rise = acts_rise book.acts (books_are_kept capacity book reached).acts

  pub of_one_household : (household other : ℕ) (request its : Request) → request_in (known_of book).requests household ≡ Some request →
      request_in (known_of book).requests other ≡ Some its → request.act ≡ its.act → household ≡ other
  of_one_household household other request its is that same =
      let one = said acts household request (last_known acts household request is) in
      let two = said acts other its (last_known acts other its that) in
      let by = asked_by household one.0 request one.2 in
      let of = asked_by other two.0 its two.2 in
      let act : one.0 ≡ two.0 =
      risen_key (λ (act : Act). act.n) acts rise one.0 two.0 one.1 two.1 (sym (request_act household one.0 request one.2) ∙ same ∙ request_act other two.0 its two.2) in
      let ask : by.0 ≡ of.0 = same_Some by.0 of.0 (sym by.1 ∙ ap (λ (act : Act). ask_in act.command) act ∙ of.1) in
      sym by.2 ∙ ap (λ (ask : AskTransferAct). ask.household) ask ∙ of.2

  module _ (household : ℕ) where
    requests_rise : AllPairs (λ (request next : Request). request.act < next.act) (filter_map (request_of household) acts)
    requests_rise =
        AllPairs-filter_map (λ act next. act.n < next.n) (λ request next. request.act < next.act) (request_of household)
        (λ act next request later is comes by. omega (arith, by, request_act household act request is, request_act household next later comes)) acts rise

    -- what a row says is one of what the household said
    one_said : (row : ActRow) (request : Request) → Contains book.acts row → SaysBy row household request → Contains (filter_map (request_of household) acts) request
    one_said row request held is =
        let by = said_by household row request is in
        of_given (request_of household) acts by.0 request (of_given act_of book.acts row by.0 held by.1) by.2

    found : (request : Request) → last_request acts household ≡ Some request → SaidLast book household request
    found request is =
        let by = said acts household request is in
        let row = given_of act_of book.acts by.0 by.1 in
        let its : SaysBy row.0 household request = says household row.0 request by.0 row.2 by.2 in record {
          row = row.0;
          held = row.1;
          says = its;
          last = λ other request_then there says_then.
              omega (
                arith,
                its.act,
                says_then.act,
                last_most (λ (q : Request). q.act) (filter_map (request_of household) acts) requests_rise request request_then is (one_said other request_then there says_then),
              );
        }

    is_there : (request : Request) → SaidLast book household request → IsOneOf (household_count acts) household
    is_there request at =
        let by = said_by household at.row request at.says in
        let held : Contains acts by.0 = of_given act_of book.acts at.row by.0 at.held by.1 in
        let ask = asked_by household by.0 request by.2 in
        let names = All-contains (λ act. IfSome (ask_in act.command) (λ ask. IsOneOf (household_count acts) ask.household)) acts by.0
        (books_are_kept capacity book reached).names.asked held in
        subst (IsOneOf (household_count acts)) ask.2 (subst (λ (o : Option AskTransferAct). IfSome o (λ ask. IsOneOf (household_count acts) ask.household)) ask.1 names)

    is_known : (request : Request) → SaidLast book household request → request_in (known_of book).requests household ≡ Some request
    is_known request at =
        let there = is_there request at in at_place acts household there.least there.most ∙ by_last (last_request acts household) refl
      where
        held : Contains (filter_map (request_of household) acts) request
        held = one_said at.row request at.held at.says

        by_last : (last : Option Request) → last_request acts household ≡ last → last_request acts household ≡ Some request
        by_last None none = absurd (none_held (filter_map (request_of household) acts) request none held)
        by_last (Some last) is =
            let its : SaidLast book household last = found last is in
            let no_less = last_most (λ (q : Request). q.act) (filter_map (request_of household) acts) requests_rise last request is held in
            let same : last.act ≡ request.act = omega (arith, no_less, at.last its.row last its.held its.says, its.says.act, at.says.act) in
            is ∙ ap (λ (q : Request). Some q)
            (risen_key (λ (q : Request). q.act) (filter_map (request_of household) acts) requests_rise last request
            (last_held (filter_map (request_of household) acts) last is) held same)

pub requests_are_last : RequestsAreLast
requests_are_last capacity book reached household request = (
  λ is. found capacity book reached household request (last_known (acts_of book.acts) household request is),
  is_known capacity book reached household request,
)
