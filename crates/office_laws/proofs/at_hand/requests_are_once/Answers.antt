-- One act at most is of a clerk and request.
use Rattle.office_laws.proofs.Words.{◌≡◌, refl, ℕ, arith, Bool, not, ◌&&◌, List, Some, None, cond, find, bytes_eq, option_and_then, ActRow, is_request_of, AreActs, find_both, common_steps, nat_tests}
use Rattle.office_laws.proofs.Reached.{books_are_kept}
use Rattle.office_laws.proofs.at_hand.requests_are_once.Goals as goal

found_with : (rows : List ActRow) → AreActs rows → (clerk request : ℕ) (passes : ActRow → Bool) →
    find (λ row. is_request_of clerk request row && passes row) rows ≡
    option_and_then (λ row. cond (passes row) (Some row) None) (find (is_request_of clerk request) rows)
found_with rows are clerk request passes =
    find_both (is_request_of clerk request) passes rows (λ i j d before within is.
    grind (arith, common_steps, nat_tests, is, are.once i j d before within))

pub returns-clause-new : goal.returns-clause-new
returns-clause-new c capacity book reached clerk request body none =
    let are : AreActs book.acts = (books_are_kept capacity book reached).acts in (
      rw (found_with book.acts are clerk request (λ row. bytes_eq row.body body), none) refl,
      rw (found_with book.acts are clerk request (λ row. not (bytes_eq row.body body)), none) refl,
    )

pub returns-clause-repeated : goal.returns-clause-repeated
returns-clause-repeated c capacity book reached clerk request body row found same =
    rw (found_with book.acts (books_are_kept capacity book reached).acts clerk request (λ row. bytes_eq row.body body), found, same) refl

pub returns-clause-reused : goal.returns-clause-reused
returns-clause-reused c capacity book reached clerk request body row found other =
    let are : AreActs book.acts = (books_are_kept capacity book reached).acts in (
      rw (found_with book.acts are clerk request (λ row. bytes_eq row.body body), found, other) refl,
      rw (found_with book.acts are clerk request (λ row. not (bytes_eq row.body body)), found, other) refl,
    )
