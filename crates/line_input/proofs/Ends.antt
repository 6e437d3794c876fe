-- Where the first line feed of some bytes is.
use Rattle.std.proofs.Common.{◌≡◌, ℕ, ◌<◌, false, true, List, length, take, drop, get_or, refl, sym, arith, ◌==◌, add-one, take-append-drop}
use Rattle.std.proofs.{lemmas.Bool.Decides.nat_tests, lemmas.List.get_or-take, lemmas.List.length-take-le, lemmas.List.Folds.list_any_none, lemmas.Grind.get_or_default_zero, Math.Seq.drop-cons}
use Rattle.memchr.specs.Find.{IsFirstByte, is_byte}
use Rattle.std.specs.Prelude.{Option, None, Some, IfSome}
use Rattle.line_input.specs.{Lines.has_end, Lines.EndsAt, Reading.BeginsLong}

-- no byte at any place is a line feed
pub has_end-nowhere : (xs : List ℕ) → ((k : ℕ) → k < length xs → (get_or xs k 0 == 10) ≡ true → ⊥) → has_end xs ≡ false
has_end-nowhere xs h = list_any_none (λ b. b == 10) xs (λ k d within. grind (arith, nat_tests, get_or_default_zero xs k d within, h k))

-- memchr finds none
pub none-found : (bytes : List ℕ) (found : Option ℕ) → IsFirstByte (is_byte 10) bytes found → found ≡ None → has_end bytes ≡ false
none-found bytes None h e = has_end-nowhere bytes (λ k lt is. h k (omega arith) lt is)
none-found bytes (Some k) h e = absurd (cc)

-- memchr finds the first
pub first-found : (bytes : List ℕ) (found : Option ℕ) → IsFirstByte (is_byte 10) bytes found → IfSome found (EndsAt bytes)
first-found bytes None h = tt
first-found bytes (Some k) h =
    let within : k < length bytes = h.0.high in
    let sized : length (take k bytes) ≡ k = length-take-le k bytes (omega arith) in
    let is : get_or bytes k 0 ≡ 10 = grind (arith, nat_tests, h.1) in
    record {
      endless = has_end-nowhere (take k bytes) (λ j lt e.
          h.0.before j (omega arith) (omega arith) (rw (← get_or-take k bytes j 0 (omega arith)) e));
      within = within;
      end = rw (add-one, drop-cons bytes k 0, is) refl;
    }

-- what stands before the first line feed is a front of the bytes
pub long-front : (most count : ℕ) (bytes : List ℕ) → EndsAt bytes count → most < count → BeginsLong most bytes
long-front most count bytes ends more =
    let sized = length-take-le count bytes (omega arith) in
    record { front = take count bytes; rest = drop count bytes; whole = sym (take-append-drop count bytes); endless = ends.endless; long = omega arith }
