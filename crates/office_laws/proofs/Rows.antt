-- The acts of a book: their numbers, commands, days and requests.
use Rattle.office_laws.proofs.Words.{last_office_day, ◌≡◌, refl, ℕ, ◌+◌, ◌≤◌, arith, true, false, not, ◌&&◌, List, [], ◌∷◌, ◌++◌, None, length, All, AllPairs, IsSomeAnd, slice_index_or, bytes_eq, All-push, ActRow, Command, Some, is_fit, command_in, is_request_of, repeated, request_reused, last_act_day, act_day, IsOfOffice, AreActs, find_none, places_push, option_map_none, common_steps, all_pairs_push}

-- ---- days

last_day_is : (row : ActRow) (rows : List ActRow) (d : ActRow) → last_act_day (row ∷ rows) ≡ (slice_index_or (row ∷ rows) (length rows) d).day
last_day_is row [] d = refl
last_day_is row (next ∷ rows) d = last_day_is next rows d

-- every day comes by that of the last act
by_last : (rows : List ActRow) → AllPairs (λ row next. row.day ≤ next.day) rows → All (λ row. row.day ≤ last_act_day rows) rows
by_last [] days = λ k d within. omega arith
by_last (row ∷ rows) days = λ k d within. grind (arith, last_day_is row rows d, days k (length rows) d)

pub last_within : (rows : List ActRow) → All (λ row. IsOfOffice row.day) rows → last_act_day rows ≤ last_office_day
last_within [] within = omega arith
last_within (row ∷ rows) within = omega (arith, last_day_is row rows row, within (length rows) row (omega arith))

-- ---- requests

-- none is of that clerk and request, neither with this command nor with another
none_before : (rows : List ActRow) (clerk request : ℕ) (body : List ℕ) → repeated rows clerk request body ≡ None →
    request_reused rows clerk request body ≡ None → All (λ row. is_request_of clerk request row ≡ false) rows
none_before rows clerk request body new unused = λ k d within.
    (let no_repeat = find_none (λ row. is_request_of clerk request row && bytes_eq row.body body) rows new k d within in
    let no_other = find_none (λ row. is_request_of clerk request row && not (bytes_eq row.body body)) rows (option_map_none _ _ unused) k d within in
    grind (arith, common_steps, no_repeat, no_other))

-- ---- one act more

pub acts_more : (rows : List ActRow) → AreActs rows → (row : ActRow) (asked : Command) → row.n ≡ length rows + 1 →
    command_in row.body ≡ Some asked → is_fit asked ≡ true → row.day ≡ act_day rows row.day →
    repeated rows row.clerk row.request row.body ≡ None → request_reused rows row.clerk row.request row.body ≡ None → AreActs (rows ++ row ∷ [])
acts_more rows are row asked n read fit day new unused = record {
  numbers = places_push (λ place (row : ActRow). row.n ≡ place + 1) rows row are.numbers n;
  fit = All-push (λ row. IsSomeAnd (command_in row.body) (λ asked. is_fit asked ≡ true)) rows row are.fit (rw read fit);
  years = All-push (λ row. IsOfOffice row.day) rows row are.years (omega (arith, last_within rows are.years));
  days = all_pairs_push (λ row next. row.day ≤ next.day) rows row are.days (λ k d within. omega (arith, by_last rows are.days k d within));
  once = all_pairs_push (λ row next. is_request_of next.clerk next.request row ≡ false) rows row are.once
      (none_before rows row.clerk row.request row.body new unused);
}
