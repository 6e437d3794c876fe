-- How long a head and its body may be.
use Rattle.std.proofs.Common.{◌≡◌, ℕ, ◌≤◌, Bool, true, false, List, [], ◌∷◌, length, drop, refl, ap, ◌∙◌, arith, length-append, length-drop, if◌then◌else◌}
use Rattle.std.specs.{Prelude.codes, Prelude.Ok, Prelude.Err, Prelude.nat_lt, Str.Parse.digits_value}
use Rattle.std.proofs.lemmas.Bool.{ltb-false}
use Rattle.httparse.specs.Grammar.{print_request}
use Rattle.http_heads.specs.{Headers.Header, Headers.has_header, Headers.is_number, Headers.judged, Headers.length_from, Headers.length_of, Headers.values_of, Looks.IsFoundIn, declared.fault.Fault.Fault, declared.look.FoundHead.FoundHead}

length_from_small : (value : List ℕ) (count : ℕ) → length_from value ≡ Ok count → count ≤ 16384
unfolding length_from
length_from_small value count is = by (is_number value) (nat_lt 16384 (digits_value 10 value)) refl is
  where
    by : (t u : Bool) → nat_lt 16384 (digits_value 10 value) ≡ u
        → (if t then (if u then Err Fault.BodyTooLong else Ok (digits_value 10 value)) else Err Fault.BadLength) ≡ Ok count → count ≤ 16384
    by true true long e = absurd (cc)
    by true false short e =
        let same : digits_value 10 value ≡ count = cc in
        omega (arith, ltb-false 16384 (digits_value 10 value) short)
    by false u long e = absurd (cc)

length_of_small : (values : List (List ℕ)) (count : ℕ) → length_of values ≡ Ok count → count ≤ 16384
length_of_small [] count is = let same : 0 ≡ count = cc in omega arith
length_of_small (value ∷ []) count is = length_from_small value count is
length_of_small (value ∷ second ∷ values) count is = absurd (cc)

pub judged_small : (headers : List Header) (count : ℕ) → judged headers ≡ Ok count → count ≤ 16384
unfolding judged
judged_small headers count is = by (nat_lt 64 (length headers)) (has_header transfer_encoding headers) is
  where
    transfer_encoding : List ℕ
    transfer_encoding = codes "transfer-encoding"

    by : (t u : Bool) → (if t then Err Fault.HeadTooLong else (if u then Err Fault.Coding else length_of (values_of headers))) ≡ Ok count → count ≤ 16384
    by true u e = absurd (cc)
    by false true e = absurd (cc)
    by false false e = length_of_small (values_of headers) count e

pub end_small : (bytes : List ℕ) (found : FoundHead) → IsFoundIn bytes found → found.end ≤ 16384
end_small bytes found f =
    let size = ap length f.has.0.1 ∙ length-append (print_request f.head) (drop found.end bytes) in
    omega (arith, size, f.has.1, f.within, length-drop found.end bytes)
