-- New passes, one after another.
use Rattle.std.proofs.Common.{◌≡◌, ◌∙◌, ◌+◌, ℕ, arith, ap, sym, subst, List, [], ◌∷◌, ◌++◌, length}
use Rattle.desk_history.specs.declared.views.{Start.Start, BookView.BookView, PassView.PassView}
use Rattle.desk_history.specs.Moves.{new_pass}
use Rattle.shared_desk.specs.Passes.{IsFresh, AreFresh}

-- the pass with the number after theirs
pub fresh_push : (start : Start) (next number : ℕ) (passes : List PassView) (pass : PassView) → AreFresh start next passes →
    number ≡ next + length passes → IsFresh start number pass → AreFresh start next (passes ++ pass ∷ [])
fresh_push start next number [] pass fresh is new =
    (subst (λ (n : ℕ). IsFresh start n pass) (let same : number ≡ next = omega (arith, is) in same) new, tt)
fresh_push start next number (first ∷ passes) pass fresh is new =
    (fresh.0, fresh_push start (next + 1) number passes pass fresh.1 (omega (arith, is)) new)

-- a pass that the book hands out
pub handed_out : (start : Start) (book : BookView) (passes more : List PassView) (pass : PassView) → book.start ≡ start → book.list ≡ [] →
    book.next ≡ length passes + 1 → pass ≡ new_pass book → more ≡ passes ++ pass ∷ [] → AreFresh start 1 passes → AreFresh start 1 more
handed_out start book passes more pass same none next is pushed fresh =
    subst (λ (all : List PassView). AreFresh start 1 all) (sym pushed)
    (fresh_push start 1 book.next passes pass fresh (omega (arith, next)) (record {
      number_is = ap (λ (p : PassView). p.number) is;
      start_is = ap (λ (p : PassView). p.start) is ∙ same;
      list = ap (λ (p : PassView). p.list) is ∙ none;
      tried = ap (λ (p : PassView). p.tried) is;
      left = ap (λ (p : PassView). p.left) is ∙ sym (ap (λ (p : PassView). p.found) is);
    }))
