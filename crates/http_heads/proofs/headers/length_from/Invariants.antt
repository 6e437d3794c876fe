use Rattle.std.proofs.Common.{◌≡◌, ◌≤◌, true, min, take, drop}
use Rattle.std.specs.{Char.is_ascii_digit, List.list_all, Str.Parse.digits_value, Str.Parse.digits_value_after}
use Rattle.http_heads.proofs.headers.length_from.Given as goal

abbrev pub invariant-loop-digit : goal.invariant-loop-digit
invariant-loop-digit l = record {
  digits : list_all is_ascii_digit (take l.digit-index l.digits) ≡ true;
  small : l.count ≤ 16385;
  value : min (digits_value_after 10 l.count (drop l.digit-index l.digits)) 16385 ≡ min (digits_value 10 l.digits) 16385;
}
