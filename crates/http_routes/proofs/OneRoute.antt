-- No two routes fit one path: the first part and the third tell the route.
use Rattle.std.proofs.Common.{◌≡◌, ℕ, ◌==◌, ◌&&◌, true, if◌then◌else◌, List, [], ◌∷◌, length, refl, sym, ap, ◌∙◌}
use Rattle.std.specs.Prelude.{bytes_eq, codes, nat_lt}
use Rattle.std.proofs.lemmas.{Bool.and_parts, Bool.true≢false, Slice.Eq.bytes_eq-Decides}
use Rattle.questions.specs.declared.kind.QuestionKind.{QuestionKind}
use Rattle.http_routes.specs.{Asks.OneRoute, Asks.path_of, Paths.behind, Paths.fits, Paths.part_of, Paths.steps_of, Paths.value, Paths.word, declared.place.Place.Place}

past_slash : List ℕ → List ℕ
past_slash [] = []
past_slash (b ∷ path) = path

-- the first part, and the third where there is one
first_part : List ℕ → List ℕ
first_part path = part_of (past_slash path)

third_part : List ℕ → List ℕ
third_part path = part_of (past_slash (behind (past_slash (behind (past_slash path)))))

none_left : (path : List ℕ) → fits [] path ≡ true → path ≡ []
none_left [] fit = refl
none_left (b ∷ path) fit = absurd (true≢false (sym fit))

same_text : (text part : List ℕ) → bytes_eq text part ≡ true → part ≡ text
same_text text part same = sym ((bytes_eq-Decides text part).0 same)

one_part : (text path : List ℕ) → fits (word text ∷ []) path ≡ true → (first_part path ≡ text) × (third_part path ≡ [])
unfolding first_part third_part past_slash
one_part text [] fit = absurd (true≢false (sym fit))
one_part text (b ∷ path) fit =
    let inner = (and_parts (47 == b) (bytes_eq text (part_of path) && fits [] (behind path)) fit).1 in
    let both = and_parts (bytes_eq text (part_of path)) (fits [] (behind path)) inner in
    (same_text text (part_of path) both.0, ap (λ (l : List ℕ). part_of (past_slash (behind (past_slash l)))) (none_left (behind path) both.1))

two_parts : (text path : List ℕ) → fits (word text ∷ value ∷ []) path ≡ true → (first_part path ≡ text) × (third_part path ≡ [])
unfolding first_part third_part past_slash
two_parts text [] fit = absurd (true≢false (sym fit))
two_parts text (b ∷ path) fit =
    let inner = (and_parts (47 == b) (bytes_eq text (part_of path) && fits (value ∷ []) (behind path)) fit).1 in
    let both = and_parts (bytes_eq text (part_of path)) (fits (value ∷ []) (behind path)) inner in
    (same_text text (part_of path) both.0, ap (λ (l : List ℕ). part_of (past_slash l)) (none_left (behind (past_slash (behind path))) (last (behind path) both.1)))
  where
    last : (rest : List ℕ) → fits (value ∷ []) rest ≡ true → fits [] (behind (past_slash rest)) ≡ true
    last [] f = absurd (true≢false (sym f))
    last (c ∷ rest) f = (and_parts (nat_lt 0 (length (part_of rest))) (fits [] (behind rest)) (and_parts (47 == c) _ f).1).1

four_parts : (text second path : List ℕ) → fits (word text ∷ value ∷ word second ∷ value ∷ []) path ≡ true
    → (first_part path ≡ text) × (third_part path ≡ second)
unfolding first_part third_part past_slash
four_parts text second [] fit = absurd (true≢false (sym fit))
four_parts text second (b ∷ path) fit =
    let rest = fits (value ∷ word second ∷ value ∷ []) (behind path) in
    let inner = (and_parts (47 == b) (bytes_eq text (part_of path) && rest) fit).1 in
    let both = and_parts (bytes_eq text (part_of path)) rest inner in
    (same_text text (part_of path) both.0, third (behind (past_slash (behind path))) (last (behind path) both.1))
  where
    last : (rest : List ℕ) → fits (value ∷ word second ∷ value ∷ []) rest ≡ true → fits (word second ∷ value ∷ []) (behind (past_slash rest)) ≡ true
    last [] f = absurd (true≢false (sym f))
    last (c ∷ rest) f = (and_parts (nat_lt 0 (length (part_of rest))) (fits (word second ∷ value ∷ []) (behind rest)) (and_parts (47 == c) _ f).1).1

    third : (rest : List ℕ) → fits (word second ∷ value ∷ []) rest ≡ true → part_of (past_slash rest) ≡ second
    third [] f = absurd (true≢false (sym f))
    third (c ∷ rest) f =
        same_text second (part_of rest) (and_parts (bytes_eq second (part_of rest)) (fits (value ∷ []) (behind rest)) (and_parts (47 == c) _ f).1).0

-- ---- which route it is

first_word : Place → List ℕ
first_word Place.Acts = codes "acts"
first_word (Place.Question QuestionKind.Household) = codes "households"
first_word (Place.Question QuestionKind.Record) = codes "households"
first_word (Place.Question QuestionKind.Paid) = codes "households"
first_word (Place.Question QuestionKind.Next) = codes "units"
first_word (Place.Question QuestionKind.Voucher) = codes "vouchers"
first_word (Place.Question QuestionKind.Due) = codes "due"
first_word (Place.Question QuestionKind.Targets) = codes "targets"

third_word : Place → List ℕ
third_word (Place.Question QuestionKind.Record) = codes "records"
third_word (Place.Question QuestionKind.Paid) = codes "paid"
third_word (Place.Question QuestionKind.Next) = codes "next"
third_word Place.Acts = []
third_word (Place.Question QuestionKind.Household) = []
third_word (Place.Question QuestionKind.Voucher) = []
third_word (Place.Question QuestionKind.Due) = []
third_word (Place.Question QuestionKind.Targets) = []

words_of : (place : Place) (path : List ℕ) → fits (steps_of place) path ≡ true → (first_part path ≡ first_word place) × (third_part path ≡ third_word place)
unfolding first_word third_word
words_of Place.Acts path fit = one_part (codes "acts") path fit
words_of (Place.Question QuestionKind.Household) path fit = two_parts (codes "households") path fit
words_of (Place.Question QuestionKind.Record) path fit = four_parts (codes "households") (codes "records") path fit
words_of (Place.Question QuestionKind.Paid) path fit = four_parts (codes "households") (codes "paid") path fit
words_of (Place.Question QuestionKind.Next) path fit = four_parts (codes "units") (codes "next") path fit
words_of (Place.Question QuestionKind.Voucher) path fit = two_parts (codes "vouchers") path fit
words_of (Place.Question QuestionKind.Due) path fit = two_parts (codes "due") path fit
words_of (Place.Question QuestionKind.Targets) path fit = two_parts (codes "targets") path fit

route_of : List ℕ → List ℕ → Place
route_of first third =
    if bytes_eq first (codes "acts") then Place.Acts
    else (if bytes_eq first (codes "units") then (Place.Question QuestionKind.Next)
    else (if bytes_eq first (codes "vouchers") then (Place.Question QuestionKind.Voucher)
    else (if bytes_eq first (codes "due") then (Place.Question QuestionKind.Due)
    else (if bytes_eq first (codes "targets") then (Place.Question QuestionKind.Targets)
    else (if bytes_eq third (codes "records") then (Place.Question QuestionKind.Record)
    else (if bytes_eq third (codes "paid") then (Place.Question QuestionKind.Paid)
    else (Place.Question QuestionKind.Household)))))))

route_is : (place : Place) → route_of (first_word place) (third_word place) ≡ place
unfolding route_of first_word third_word
route_is Place.Acts = refl
route_is (Place.Question QuestionKind.Household) = refl
route_is (Place.Question QuestionKind.Record) = refl
route_is (Place.Question QuestionKind.Paid) = refl
route_is (Place.Question QuestionKind.Next) = refl
route_is (Place.Question QuestionKind.Voucher) = refl
route_is (Place.Question QuestionKind.Due) = refl
route_is (Place.Question QuestionKind.Targets) = refl

told : (place : Place) (path : List ℕ) → fits (steps_of place) path ≡ true → place ≡ route_of (first_part path) (third_part path)
told place path fit =
    let words = words_of place path fit in
    sym (route_is place) ∙ ap (λ (l : List ℕ). route_of l (third_word place)) (sym words.0)
    ∙ ap (λ (l : List ℕ). route_of (first_part path) l) (sym words.1)

pub one_route : OneRoute
one_route target place other fits_here fits_too = told place (path_of target) fits_here ∙ sym (told other (path_of target) fits_too)
