-- What the router of the office finds.
use Rattle.std.proofs.Common.{◌≡◌, ℕ, suc, ◌<◌, ◌==◌, if◌then◌else◌, true, false, inl, inr, List, [], ◌∷◌, length, get_or, Option, Some, None, refl, sym, ap, ◌∙◌, arith}
use Rattle.std.specs.Prelude.{is_some}
use Rattle.std.proofs.lemmas.Bool.{and_from, false_from_ne_true, lt-ltb, true≢false}
use Rattle.matchit.specs.{Router.RouteOf, Router.map_key, Rows.RowsOf, Seek.first}
use Rattle.matchit.proofs.RenameLemmas.{first-rename}
use Rattle.questions.specs.declared.kind.QuestionKind.{QuestionKind}
use Rattle.http_routes.specs.{Paths.fits, Paths.steps_of, Table.IsTable, Table.number_of, Table.table, Table.tokens_of, declared.place.Place.Place}
use Rattle.http_routes.proofs.{Tokens.are_plain, Tokens.token_fits_steps, Walks.AllPlain, Walks.Has, Walks.are_bytes, Walks.fitting_found, Walks.found_fits, Walks.token_fits}

pub bytes_all : (path : List ℕ) → ((i : ℕ) → get_or path i 0 < 256) → are_bytes path ≡ true
bytes_all [] small = refl
bytes_all (b ∷ path) small = and_from _ _ (lt-ltb b 256 (small 0)) (bytes_all path (λ i. small (suc i)))

plain : AllPlain table
plain = (refl, (refl, (refl, (refl, (refl, (refl, (refl, (refl, tt))))))))

all_plain : (place : Place) → are_plain (steps_of place) ≡ true
all_plain Place.Acts = refl
all_plain (Place.Question QuestionKind.Household) = refl
all_plain (Place.Question QuestionKind.Record) = refl
all_plain (Place.Question QuestionKind.Paid) = refl
all_plain (Place.Question QuestionKind.Next) = refl
all_plain (Place.Question QuestionKind.Voucher) = refl
all_plain (Place.Question QuestionKind.Due) = refl
all_plain (Place.Question QuestionKind.Targets) = refl

-- each place has its row
row_there : (place : Place) → Has table (tokens_of (steps_of place)) (number_of place)
row_there Place.Acts = inl (refl, refl)
row_there (Place.Question QuestionKind.Due) = inr (inl (refl, refl))
row_there (Place.Question QuestionKind.Paid) = inr (inr (inl (refl, refl)))
row_there (Place.Question QuestionKind.Record) = inr (inr (inr (inl (refl, refl))))
row_there (Place.Question QuestionKind.Household) = inr (inr (inr (inr (inl (refl, refl)))))
row_there (Place.Question QuestionKind.Targets) = inr (inr (inr (inr (inr (inl (refl, refl))))))
row_there (Place.Question QuestionKind.Next) = inr (inr (inr (inr (inr (inr (inl (refl, refl)))))))
row_there (Place.Question QuestionKind.Voucher) = inr (inr (inr (inr (inr (inr (inr (inl (refl, refl))))))))

-- the tokens of the row of that number
tokens_at : ℕ → List ℕ
tokens_at k =
    if k == 0 then tokens_of (steps_of Place.Acts)
    else (if k == 1 then tokens_of (steps_of (Place.Question QuestionKind.Household))
    else (if k == 2 then tokens_of (steps_of (Place.Question QuestionKind.Record))
    else (if k == 3 then tokens_of (steps_of (Place.Question QuestionKind.Next))
    else (if k == 4 then tokens_of (steps_of (Place.Question QuestionKind.Voucher))
    else (if k == 5 then tokens_of (steps_of (Place.Question QuestionKind.Paid))
    else (if k == 6 then tokens_of (steps_of (Place.Question QuestionKind.Due))
    else tokens_of (steps_of (Place.Question QuestionKind.Targets))))))))

tokens_at-number : (place : Place) → tokens_at (number_of place) ≡ tokens_of (steps_of place)
unfolding tokens_at
tokens_at-number Place.Acts = refl
tokens_at-number (Place.Question QuestionKind.Household) = refl
tokens_at-number (Place.Question QuestionKind.Record) = refl
tokens_at-number (Place.Question QuestionKind.Paid) = refl
tokens_at-number (Place.Question QuestionKind.Next) = refl
tokens_at-number (Place.Question QuestionKind.Voucher) = refl
tokens_at-number (Place.Question QuestionKind.Due) = refl
tokens_at-number (Place.Question QuestionKind.Targets) = refl

row_is : (t : List ℕ) (k : ℕ) → Has table t k → t ≡ tokens_at k
unfolding tokens_at
row_is t k (inl here) = sym here.0 ∙ ap tokens_at here.1
row_is t k (inr (inl here)) = sym here.0 ∙ ap tokens_at here.1
row_is t k (inr (inr (inl here))) = sym here.0 ∙ ap tokens_at here.1
row_is t k (inr (inr (inr (inl here)))) = sym here.0 ∙ ap tokens_at here.1
row_is t k (inr (inr (inr (inr (inl here))))) = sym here.0 ∙ ap tokens_at here.1
row_is t k (inr (inr (inr (inr (inr (inl here)))))) = sym here.0 ∙ ap tokens_at here.1
row_is t k (inr (inr (inr (inr (inr (inr (inl here))))))) = sym here.0 ∙ ap tokens_at here.1
row_is t k (inr (inr (inr (inr (inr (inr (inr (inl here)))))))) = sym here.0 ∙ ap tokens_at here.1
row_is t k (inr (inr (inr (inr (inr (inr (inr (inr none)))))))) = absurd none

-- what the router finds is found among the rows
among : (rows : RowsOf (RouteOf Place)) (path : List ℕ) (found : Option (RouteOf Place)) → IsTable rows → first rows path ≡ found
    → first table path ≡ map_key (λ (route : RouteOf Place). number_of route.value) found
among rows path found is e =
    ap (λ (r : RowsOf ℕ). first r path) (sym is) ∙ first-rename (λ (route : RouteOf Place). number_of route.value) rows path
    ∙ ap (map_key (λ (route : RouteOf Place). number_of route.value)) e

-- the place that is found fits
pub place_fits : (rows : RowsOf (RouteOf Place)) (path : List ℕ) (route : RouteOf Place) → IsTable rows → ((i : ℕ) → get_or path i 0 < 256)
    → first rows path ≡ Some route → fits (steps_of route.value) path ≡ true
place_fits rows path route is small e =
    let place = route.value in
    let bytes = bytes_all path small in
    let found = found_fits (length path) path table (number_of place) (omega arith) plain bytes (among rows path (Some route) is e) in
    sym (token_fits_steps (steps_of place) (all_plain place) path)
    ∙ ap (λ (t : List ℕ). token_fits t path) (sym (row_is found.pattern (number_of place) found.has ∙ tokens_at-number place)) ∙ found.fits

-- and where none is found no place fits
pub no_place_fits : (rows : RowsOf (RouteOf Place)) (path : List ℕ) → IsTable rows → ((i : ℕ) → get_or path i 0 < 256)
    → first rows path ≡ None → (place : Place) → fits (steps_of place) path ≡ false
no_place_fits rows path is small e place = false_from_ne_true _ (λ fit.
    let some = fitting_found (length path) path table (tokens_of (steps_of place)) (number_of place) (omega arith) plain (bytes_all path small) (row_there place)
    (token_fits_steps (steps_of place) (all_plain place) path ∙ fit) in
    true≢false (sym some ∙ ap is_some (among rows path None is e)))
