-- The records of every household are in order.
use Rattle.office_laws.proofs.Words.{◌≡◌, ℕ, ◌+◌, ◌<◌, arith, true, [], ◌∷◌, ◌++◌, Some, None, All, nat_tests, All-push, Record, live_records, newest_number, changed_records, may_begin, is_out_of_order, first_out_of_order, Command, Known, known_of, own_in, change_by, record_of, Book, Capacity, IsReached, IsInOrder, Passed, made_is_headed, numbered_push, none_above, option_map_none, common_steps, next_under}
use Rattle.tenancy_rules.proofs.LiveLaws.{change_is_what_lives}
use Rattle.office_laws.proofs.{Inversion.passes, Known.by_acts, Own.owned, Tried.Ordered, Tried.begins, Tried.judged, Tried.Tried, Tried.tried}

-- a record that may begin is in order alone
alone_in_order : (r : Record) → may_begin r.kind ≡ true → first_out_of_order (r ∷ []) ≡ None
unfolding is_out_of_order
alone_in_order r may = grind (arith, common_steps, nat_tests, may)

-- ---- one record more of a household

module _ (known : Known) (most today : ℕ) (asked : Command) (r : Record) (free : Passed known most today asked)
    (is : record_of known asked ≡ Some r) (own : IsInOrder (own_in known r.household)) where
  tries : Tried known r
  tries = tried known most today asked r free is

  number_next : r.number ≡ newest_number (own_in known r.household) + 1
  number_next = (next_under known _ r (made_is_headed known asked r is).under).number

  all_smaller : All (λ (held : Record). held.corrects < r.number) (own_in known r.household)
  all_smaller = λ k d within. omega (arith, number_next, none_above (own_in known r.household) own.numbered k d within, own.corrects k d within)

  -- what lives then was judged
  pub live_changed : live_records (own_in known r.household ++ r ∷ []) ≡ changed_records (own_in known r.household) (change_by r)
  live_changed = change_is_what_lives (own_in known r.household) r all_smaller (tries.smaller own.numbered)

  live_in_order : first_out_of_order (live_records (own_in known r.household ++ r ∷ [])) ≡ None
  live_in_order = by_ordered tries.ordered
    where
      by_ordered : Ordered known r → first_out_of_order (live_records (own_in known r.household ++ r ∷ [])) ≡ None
      by_ordered (begins none may zero counts) = rw (live_changed, counts, none) (alone_in_order r may)
      by_ordered (judged none) = rw live_changed (option_map_none _ _ none)

  pub in_order_more : IsInOrder (own_in known r.household ++ r ∷ [])
  in_order_more = record {
    numbered = numbered_push (own_in known r.household) r own.numbered number_next;
    corrects = All-push (λ r. r.corrects < r.number) (own_in known r.household) r own.corrects (tries.smaller own.numbered);
    live = live_in_order;
  }

-- ---- every household

pub own_in_order : (capacity : Capacity) (book : Book) → IsReached capacity book → (household : ℕ) → IsInOrder (own_in (known_of book) household)
own_in_order capacity =
    by_acts (λ known. (household : ℕ) → IsInOrder (own_in known household)) capacity (λ household. grind (arith, common_steps)) (λ book rows reached appends own household.
    (let free = passes capacity book rows appends in
    owned IsInOrder (known_of book) appends.call.command free.no_such household (own household) (λ r is same.
    in_order_more (known_of book) capacity.acts rows.act.day appends.call.command r free is (own r.household))))
