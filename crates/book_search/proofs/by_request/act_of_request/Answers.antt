use Rattle.book_search.proofs.Words.{ℕ, ◌≡◌, ◌∙◌, sym, ap, true, nat_eq, Bool, arith, option_copied, nat_tests, ActRow, request_key, act_key, is_request_of, find_passes, find_none-narrower, find_first-narrower}
use Rattle.book_search.proofs.by_request.act_of_request.Goals as goal

-- the test for the key of a request
abbrev of_key : ℕ → ActRow → Bool
of_key key act = nat_eq (act_key act) key

narrower : (clerk request key : ℕ) → key ≡ request_key clerk request → (act : ActRow) → is_request_of clerk request act ≡ true → of_key key act ≡ true
narrower clerk request key is act passed = grind (arith, nat_tests, is, passed)

pub returns-in_default : goal.returns-in_default
returns-in_default c =
    sym (find_none-narrower (is_request_of c.args.clerk c.args.request) (of_key c.act_key.result) (narrower _ _ _ c.act_key.ensures) c.args.acts.now
    (sym c.act_of_key.ensures ∙ ap option_copied c.in_default.is))

pub returns-then-is_of_request : goal.returns-then-is_of_request
returns-then-is_of_request c =
    sym (find_first-narrower (is_request_of c.args.clerk c.args.request) (of_key c.act_key.result) (narrower _ _ _ c.act_key.ensures) c.args.acts.now c.in-Some.act.now
    (sym c.act_of_key.ensures ∙ ap option_copied c.in-Some.is) (sym c.is_of_request.ensures.value ∙ c.if-is_of_request.true))

pub returns-else-is_of_request : goal.returns-else-is_of_request
returns-else-is_of_request c =
    let passed = find_passes (of_key c.act_key.result) c.args.acts.now c.in-Some.act.now (sym c.act_of_key.ensures ∙ ap option_copied c.in-Some.is) in
    grind (arith, nat_tests, passed)
