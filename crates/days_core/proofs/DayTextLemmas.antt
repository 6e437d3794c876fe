-- A text names a day exactly where it is the day's text.
use Rattle.std.proofs.Common.{◌≡◌, ◌≢◌, ℕ, ◌+◌, ◌-◌, ◌*◌, ◌/◌, ◌%◌, ◌<◌, ◌≤◌, Bool, true, cond, List, [], ◌∷◌, ◌++◌, Option, Some, None, Result, Ok, Err, refl, sym, arith, pos}
use Rattle.std.specs.Result.{result_ok}
use Rattle.std.specs.Prelude.{IfOk, OnErr, ◌&&◌, ◌==◌}
use Rattle.std.proofs.lemmas.{Bool.and_parts, Bool.eqb-true, Bool.Decides.nat_tests, Grind.common_steps}
use Rattle.std.proofs.lemmas.Option.{cond_some}
use Rattle.jiff_core.specs.Calendar.{days_in_month}
use Rattle.days_core.specs.Calendar.{days_in, month_year, month_place, month_of, year_of, month_in_year, day_in_month, day_number, is_date}
use Rattle.days_core.specs.DayText.{two_digits, day_text, month_text, ◌>>=◌, digit_from, two_digits_from, day_named, day_from, month_named, month_from}
use Rattle.days_core.proofs.Bridge.{IsInMonth, month_of_fits, month_of_is, month_parts, day_in_range, day_number-parts, days_in_bounds, is_date-from, is_date-says, is_date-again}

-- ---- from a day to its text and back

digit_from-again : (digit : ℕ) → digit < 10 → digit_from (48 + digit) ≡ Some digit
digit_from-again digit h = grind (arith, nat_tests)

two_digits-again : (number : ℕ) → number < 100 → two_digits_from (48 + number / 10) (48 + number % 10) ≡ Some number
two_digits-again number h = grind (arith, common_steps, digit_from-again (number / 10), digit_from-again (number % 10))

pub day_from-day_text : (day : ℕ) → day ≤ 116877 → day_from (day_text day) ≡ Some day
unfolding day_from
day_from-day_text day h =
    let fits = month_of_fits day h in
    let short = days_in_bounds (month_of day) in
    let year : 100 * (year_of day / 100) + year_of day % 100 ≡ year_of day = omega arith in
    rw (two_digits-again (year_of day / 100) (omega (arith, fits.month_in)), two_digits-again (year_of day % 100) (omega arith), two_digits-again (month_in_year day) (omega arith), two_digits-again (day_in_month day) (omega (arith, fits.begun, fits.ends, short.1)), year, is_date-again day h, day_number-parts day h) refl

-- ---- from a text to the day that it names

-- the value of a step that was there
bind_some : {A B : Type 0} (o : Option A) (f : A → Option B) (y : B) → (o >>= f) ≡ Some y → (x : A) × (o ≡ Some x) × (f x ≡ Some y)
bind_some (Some x) f y e = (x, refl, e)
bind_some None f y e = absurd cc

tested : {A : Type 0} (b : Bool) (o : Option A) (y : A) → cond b o None ≡ Some y → (b ≡ true) × (o ≡ Some y)
tested b o y e = grind (arith, common_steps)

digit_from-is : (byte digit : ℕ) → digit_from byte ≡ Some digit → (byte ≡ 48 + digit) × (digit < 10)
digit_from-is byte digit e = (grind (arith, nat_tests), grind (arith, nat_tests))

two_digits-is : (tens ones number : ℕ) → two_digits_from tens ones ≡ Some number → (tens ≡ 48 + number / 10) × (ones ≡ 48 + number % 10) × (number < 100)
two_digits-is tens ones number e =
    let a = bind_some (digit_from tens) (λ ten. digit_from ones >>= λ one. Some (10 * ten + one)) number e in
    let b = bind_some (digit_from ones) (λ one. Some (10 * a.0 + one)) number a.2 in
    let ten = digit_from-is tens a.0 a.1 in
    let one = digit_from-is ones b.0 b.1 in
    let sum : 10 * a.0 + b.0 ≡ number = cc in
    (omega arith, omega arith, omega arith)

-- the day that is named has this year, month and day
day_named-is : (year month day number : ℕ) → day_named year month day ≡ Some number → (year_of number ≡ year) × (month_in_year number ≡ month) × (day_in_month number ≡ day) × (number ≤ 116877)
day_named-is year month day number e =
    let found = cond_some (is_date year month day) (day_number year month day) number e in
    let date = is_date-says year month day found.0 in
    let index = 12 * (year - 1880) + (month - 1) in
    let named = month_parts year month date.first_year date.last_year date.month_first date.month_last in
    let long : days_in index ≡ days_in_month (pos year) month = rw (named.0, named.1) refl in
    let within : IsInMonth index number = record { month_in = named.2; begun = omega (arith, found.1); ends = omega (arith, found.1, date.day_first, date.day_last) } in
    let place : month_of number ≡ index = month_of_is index number within in
    (rw place named.0, rw place named.1, rw place (omega (arith, found.1, date.day_first)), day_in_range index number within)

day_text-parts : (century year month day number : ℕ) → century < 100 → year < 100 → (year_of number ≡ 100 * century + year) → (month_in_year number ≡ month) → (day_in_month number ≡ day)
    → day_text number ≡ two_digits century ++ two_digits year ++ 45 ∷ two_digits month ++ 45 ∷ two_digits day
day_text-parts century year month day number h k years months days =
    let first : year_of number / 100 ≡ century = omega arith in
    let last : year_of number % 100 ≡ year = omega arith in
    rw (first, last, months, days) refl

-- ten bytes that are the digits of a day are its text
spelled : (c d y z dash m n second_dash e f century year month day number : ℕ)
    → (c ≡ 48 + century / 10) × (d ≡ 48 + century % 10) × (century < 100) → (y ≡ 48 + year / 10) × (z ≡ 48 + year % 10) × (year < 100)
    → (m ≡ 48 + month / 10) × (n ≡ 48 + month % 10) × (month < 100) → (e ≡ 48 + day / 10) × (f ≡ 48 + day % 10) × (day < 100) → (dash ≡ 45) × (second_dash ≡ 45)
    → (year_of number ≡ 100 * century + year) → (month_in_year number ≡ month) → (day_in_month number ≡ day)
    → c ∷ d ∷ y ∷ z ∷ dash ∷ m ∷ n ∷ second_dash ∷ e ∷ f ∷ [] ≡ day_text number
spelled c d y z dash m n second_dash e f century year month day number first second third fourth dashes years months days =
    let whole = day_text-parts century year month day number first.2 second.2 years months days in
    rw whole cc

pub day_from-is : (text : List ℕ) (day : ℕ) → day_from text ≡ Some day → (text ≡ day_text day) × (day ≤ 116877)
unfolding day_from
day_from-is (c ∷ d ∷ y ∷ z ∷ dash ∷ m ∷ n ∷ second_dash ∷ e ∷ f ∷ []) day found =
    let at_day = λ (century year month : ℕ). two_digits_from e f >>= λ day. day_named (100 * century + year) month day in
    let at_month = λ (century year : ℕ). two_digits_from m n >>= at_day century year in
    let at_year = λ (century : ℕ). two_digits_from y z >>= at_month century in
    let dashed = tested (dash == 45 && second_dash == 45) (two_digits_from c d >>= at_year) day found in
    let dashes = and_parts (dash == 45) (second_dash == 45) dashed.0 in
    let century_read = bind_some (two_digits_from c d) at_year day dashed.1 in
    let year_read = bind_some (two_digits_from y z) (at_month century_read.0) day century_read.2 in
    let month_read = bind_some (two_digits_from m n) (at_day century_read.0 year_read.0) day year_read.2 in
    let day_read = bind_some (two_digits_from e f) (day_named (100 * century_read.0 + year_read.0) month_read.0) day month_read.2 in
    let named = day_named-is (100 * century_read.0 + year_read.0) month_read.0 day_read.0 day day_read.2 in
    let century = two_digits-is c d century_read.0 century_read.1 in
    let year = two_digits-is y z year_read.0 year_read.1 in
    let month = two_digits-is m n month_read.0 month_read.1 in
    let day_is = two_digits-is e f day_read.0 day_read.1 in
    (spelled c d y z dash m n second_dash e f century_read.0 year_read.0 month_read.0 day_read.0 day century year month day_is (eqb-true dash 45 dashes.0, eqb-true second_dash 45 dashes.1) named.0 named.1 named.2, named.3)
day_from-is _ day found = absurd cc

-- ---- what a reader says that gives what the definition reads

module _ {E : Type 0} (text_of : ℕ → List ℕ) (from : List ℕ → Option ℕ) (most : ℕ) (is : (text : List ℕ) (number : ℕ) → from text ≡ Some number → text ≡ text_of number)
    (again : (number : ℕ) → number ≤ most → from (text_of number) ≡ Some number) where
  pub is_written : (result : Result ℕ E) (text : List ℕ) → result_ok result ≡ from text → IfOk result (λ number. text ≡ text_of number)
  is_written (Ok number) text e = is text number (sym e)
  is_written (Err _) text e = tt

  pub no_other : (result : Result ℕ E) (text : List ℕ) → result_ok result ≡ from text → OnErr result ((number : ℕ) → number ≤ most → text ≢ text_of number)
  no_other (Ok number) text e = tt
  no_other (Err _) text e = λ number h same. (let found = again number h in absurd (cc (e, same)))

-- ---- months

pub month_from-month_text : (month : ℕ) → month ≤ 3839 → month_from (month_text month) ≡ Some month
unfolding month_from
month_from-month_text month h =
    let year : 100 * (month_year month / 100) + month_year month % 100 ≡ month_year month = omega arith in
    let short = days_in_bounds month in
    let test = is_date-from (month_year month) (month_place month) 1 (omega arith) (omega arith) (omega arith) (omega arith) (omega arith) (omega arith) in
    let same : 12 * (month_year month - 1880) + (month_place month - 1) ≡ month = omega arith in
    rw (two_digits-again (month_year month / 100) (omega arith), two_digits-again (month_year month % 100) (omega arith), two_digits-again (month_place month) (omega arith), year, test, same) refl

pub month_from-is : (text : List ℕ) (month : ℕ) → month_from text ≡ Some month → text ≡ month_text month
unfolding month_from
month_from-is (c ∷ d ∷ y ∷ z ∷ dash ∷ m ∷ n ∷ []) month found =
    let at_place = λ (century year : ℕ). two_digits_from m n >>= month_named (100 * century + year) in
    let at_year = λ (century : ℕ). two_digits_from y z >>= at_place century in
    let dashed = tested (dash == 45) (two_digits_from c d >>= at_year) month found in
    let century_read = bind_some (two_digits_from c d) at_year month dashed.1 in
    let year_read = bind_some (two_digits_from y z) (at_place century_read.0) month century_read.2 in
    let place_read = bind_some (two_digits_from m n) (month_named (100 * century_read.0 + year_read.0)) month year_read.2 in
    let named = cond_some (is_date (100 * century_read.0 + year_read.0) place_read.0 1) (12 * (100 * century_read.0 + year_read.0 - 1880) + (place_read.0 - 1)) month place_read.2 in
    let date = is_date-says (100 * century_read.0 + year_read.0) place_read.0 1 named.0 in
    let parts = month_parts (100 * century_read.0 + year_read.0) place_read.0 date.first_year date.last_year date.month_first date.month_last in
    let century = two_digits-is c d century_read.0 century_read.1 in
    let year = two_digits-is y z year_read.0 year_read.1 in
    let place = two_digits-is m n place_read.0 place_read.1 in
    let year_is = rw named.1 at parts.0 in
    let high : month_year month / 100 ≡ century_read.0 = omega (arith, year.2) in
    let low : month_year month % 100 ≡ year_read.0 = omega (arith, year.2) in
    rw (high, low, rw named.1 at parts.1) (cc (century.0, century.1, year.0, year.1, place.0, place.1, eqb-true dash 45 dashed.0))
month_from-is _ month found = absurd cc
