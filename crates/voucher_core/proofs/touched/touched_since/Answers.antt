use Rattle.voucher_core.proofs.Words.{◌≡◌, ◌∙◌, ap, sym, ℕ, [], ◌∷◌, ◌++◌, All-nil, All-cons, All-append, map, map-append, nat_lt, vec_items, lt-ltb, le-ltb, newest_act, records_of, Touched, touched_household, BeginsUntouched}
use Rattle.voucher_core.proofs.Unchanged.{filtered-in, filtered-out}
use Rattle.voucher_core.proofs.touched.touched_since.Goals.{then-last_close-newest_act+in_ok-push, else-last_close-newest_act}
use Rattle.voucher_core.proofs.touched.touched_since.Goals as goal

pub loop-household-preserved : goal.loop-household-preserved
loop-household-preserved c =
    let own = records_of c.args.history.now.households in
    let passes : ℕ → _ = λ (h : ℕ). nat_lt c.args.last_close (newest_act (own h)) in
    let before = c.loop-household.changed.items in
    let after = c.if-last_close-newest_act.changed.items in
    elim c.if-last_close-newest_act.branch [
      | then-last_close-newest_act+in_ok-push w ↦
          let one : Touched = record { household = c.loop-household.household; first = w.touched_from-first.result } in
          let pushed : after ≡ before ++ one ∷ [] = ap vec_items w.changed-is ∙ w.in_ok-push.ensures.items in
          record {
            households =
                filtered-in passes c.loop-household.household (map touched_household before) (map touched_household after) c.loop-household.auto.household
                (ap (nat_lt c.args.last_close) (sym c.newest_act.ensures) ∙ lt-ltb c.args.last_close c.newest_act.result w.if-last_close-newest_act.true)
                (ap (map touched_household) pushed ∙ map-append touched_household before _) c.loop-household.invariant.households;
            untouched =
                rw pushed (All-append (BeginsUntouched c.args.last_close own) before _ c.loop-household.invariant.untouched
                (All-cons (BeginsUntouched c.args.last_close own) one [] w.touched_from-first.ensures (All-nil (BeginsUntouched c.args.last_close own))));
          }
      | else-last_close-newest_act w ↦
          let kept : after ≡ before = ap vec_items w.changed-is in
          record {
            households =
                filtered-out passes c.loop-household.household (map touched_household before) (map touched_household after) c.loop-household.auto.household
                (ap (nat_lt c.args.last_close) (sym c.newest_act.ensures) ∙ le-ltb c.args.last_close c.newest_act.result w.if-last_close-newest_act.false)
                (ap (map touched_household) kept) c.loop-household.invariant.households;
            untouched = rw kept c.loop-household.invariant.untouched;
          }
    ]
