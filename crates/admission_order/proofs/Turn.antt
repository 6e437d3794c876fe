-- The first mover so far, and one household more.
use Rattle.std.proofs.Common.{◌≡◌, ◌∙◌, sym, ap, refl, ℕ, ◌+◌, [], ◌∷◌, ◌++◌, List, Option, Some, None, Bool, false, arith, add-one}
use Rattle.std.specs.{Prelude.filter, Prelude.fold, Prelude.option_to_list, List.range_with_len, List.filter_map}
use Rattle.std.proofs.lemmas.List.{Elements.filter-append, Elements.filter_map-append, Sums.fold-append}
use Rattle.row_choice.specs.Latest.{later}
use Rattle.voucher_core.proofs.Totals.{range-more}
use Rattle.office_register.specs.Below.office_step.declared.known.Mover.{Mover}
use Rattle.rent_table.specs.declared.rows.Unit.{Unit as UnitRow}
use Rattle.office_register.specs.Below.office_step.Candidates.{in_need, first_mover}
use Rattle.list_laws.proofs.Filters.{filter_none}
use Rattle.admission_order.specs.Turns.{came_first, first_of_movers}

one_of : (found : Option Mover) (f : ℕ → Option Mover) (place : ℕ) → f place ≡ found → filter_map f (place ∷ []) ≡ option_to_list found
one_of None f place is = rw is refl
one_of (Some mover) f place is = rw is refl

pub movers-more : (turn : Mover → Bool) (f : ℕ → Option Mover) (place : ℕ) →
    first_of_movers (filter turn (filter_map f (range_with_len 1 (place + 1)))) ≡
    fold (later came_first) (first_of_movers (filter turn (filter_map f (range_with_len 1 place)))) (filter turn (option_to_list (f (place + 1))))
movers-more turn f place =
    rw (range-next, filter_map-append, one_of (f (place + 1)) f (place + 1) refl, filter-append, fold-append) refl
  where
    range-next : range_with_len 1 (place + 1) ≡ range_with_len 1 place ++ (place + 1) ∷ []
    range-next = rw add-one (range-more 1 place ∙ ap (λ (n : ℕ). range_with_len 1 place ++ n ∷ []) (omega arith))

-- nobody needs features that the unit hasn't
pub none_in_need : (unit : UnitRow) (movers : List Mover) → unit.accessible ≡ false → None ≡ first_mover (filter (in_need unit) movers)
none_in_need unit movers is = sym (ap first_mover (filter_none (in_need unit) movers (λ k d within. rw is refl)))
