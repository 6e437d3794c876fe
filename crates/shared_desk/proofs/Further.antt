-- What a pass knows goes on from one call or question to the next.
use Rattle.std.proofs.Common.{◌∙◌, inl, inr, refl, sym, ap, subst, arith, List, ◌++◌, append_assoc}
use mathlib.Core.List.{IsPrefix}
use Rattle.book_rows.specs.{declared.rows.ActRow.ActRow, declared.rows.Batch.Batch}
use Rattle.desk_history.proofs.Fronts.{prefix_more}
use Rattle.desk_history.specs.{declared.views.PassView.PassView, Laws.GoesOn, Seen.entries_of}
use Rattle.shared_desk.specs.Calls.{Further, KnowsMore}

pub further_stays : (pass : PassView) → Further pass pass
further_stays pass = inl refl

prefix_joins : (a b c : List ActRow) → IsPrefix a b → IsPrefix b c → IsPrefix a c
prefix_joins a b c first (rest, is) = subst (λ (l : List ActRow). IsPrefix a l) is (prefix_more a b rest first)

goes_on_joins : (old mid new : PassView) (before after : List ActRow) (tried tries : List Batch) → GoesOn old mid before tried → GoesOn mid new after tries →
    GoesOn old new (before ++ after) (tried ++ tries)
goes_on_joins old mid new before after tried tries first then = record {
  number = then.number ∙ first.number;
  start = then.start ∙ first.start;
  front = prefix_joins _ _ _ first.front then.front;
  point = omega (arith, first.point, then.point);
  own = then.own ∙ ap (λ (rows : List ActRow). rows ++ after) first.own ∙ append_assoc (entries_of old.number old.list) before after;
  tried = then.tried ∙ ap (λ (all : List Batch). all ++ tries) first.tried ∙ append_assoc old.tried tried tries;
  found = omega (arith, first.found, first.left, then.found);
  left = then.left;
}

pub further_joins : (old mid new : PassView) → Further old mid → Further mid new → Further old new
further_joins old mid new (inl same) then = subst (λ (p : PassView). Further p new) same then
further_joins old mid new (inr first) (inl same) = inr (subst (λ (p : PassView). KnowsMore old p) (sym same) first)
further_joins old mid new (inr (before, tried, first)) (inr (after, tries, then)) =
    inr (before ++ after, tried ++ tries, goes_on_joins old mid new before after tried tries first then)
