use Rattle.record_history.proofs.Words.{rules, arith, ◌∙◌, sym, ap, ◌-◌, vec_items, set-get_or}
use Rattle.record_history.proofs.Days.{joins, begins, begins_first}
use Rattle.record_history.proofs.stretch.add_days.Goals.{in-Some+else-eq, in_default}
use Rattle.record_history.proofs.stretch.add_days.Goals as goal

pub returns-then-eq-clause-ok : goal.returns-then-eq-clause-ok
returns-then-eq-clause-ok g c = λ key_on start exact low alike is.
    joins key_on c.args.first c.args.last c.requires c.args.key alike g.K.PartialEq.eq exact start low c.args.days.now.items is
    c.args.days.now.len c.in-Some.newest.now (search rules) (search rules) c.in-Some.ensures.value (sym c.eq.ensures ∙ c.if-eq.true)

pub returns-clause-ok : goal.returns-clause-ok
returns-clause-ok g c = λ key_on start exact low alike is.
    elim c.match-last_mut.branch [
      | in-Some+else-eq w ↦
          (let unchanged = set-get_or c.args.days.now.items (c.args.days.now.len - 1) w.in-Some.newest.now in
          let next = begins key_on c.args.first c.args.last c.requires c.args.key alike g.K.PartialEq.eq exact start low c.args.days.now.items is c.args.days.now.len w.in-Some.newest.now (search rules) (search rules) w.in-Some.ensures.value (sym w.eq.ensures ∙ w.if-eq.false) in
          cc (c.in_ok-push.ensures.items, ap vec_items w.days-is, w.in-Some.ensures.value))
      | in_default w ↦
          (let next = begins_first key_on c.args.first c.args.last c.requires c.args.key alike g.K.PartialEq.eq exact start low c.args.days.now.items is (grind (arith, w.in_default.ensures.variant.1)) in
          cc (c.in_ok-push.ensures.items, ap vec_items w.days-is))
    ]
