-- The headers of a head of at most 16,384 bytes are fewer than 5,500, since each takes three bytes.
use Rattle.std.proofs.Common.{ℕ, ◌*◌, ◌≤◌, List, [], ◌∷◌, ◌++◌, length, arith, ap, ◌∙◌, length-append}
use Rattle.std.specs.{List.flat_map, Prelude.All}
use Rattle.std.proofs.lemmas.{List.Elements.All-head, List.Elements.All-tail}
use Rattle.httparse.specs.{Grammar.Field, Grammar.IsField, Grammar.LineEnd, Grammar.crlf, Grammar.lf, Grammar.print_blank, Grammar.print_end, Grammar.print_field, Grammar.print_section, Grammar.print_version, Spans.RequestExceeds}
use Rattle.httparse.proofs.GrammarLemmas.{print_request-append}

end_long : (end : LineEnd) → 1 ≤ length (print_end end)
end_long crlf = omega arith
end_long lf = omega arith

field_long : (f : Field) → IsField f → 3 ≤ length (print_field f)
field_long f is =
    let end = end_long f.end in
    omega (arith, is.name.0, length-append (f.name ++ 58 ∷ f.raw) (print_end f.end), length-append f.name (58 ∷ f.raw))

fields_long : (fields : List Field) → All IsField fields → 3 * length fields ≤ length (flat_map print_field fields)
fields_long [] all = omega arith
fields_long (f ∷ fields) all =
    let first = field_long f (All-head IsField f fields all) in
    let others = fields_long fields (All-tail IsField f fields all) in
    omega (arith, length-append (print_field f) (flat_map print_field fields))

pub never_exceeds : (bytes : List ℕ) → length bytes ≤ 16384 → RequestExceeds 5500 bytes → ⊥
never_exceeds bytes short (front, rest, whole, head, reads, many) =
    let fields = fields_long head.fields reads.0.fields in
    let split = ap length whole ∙ length-append front rest in
    let section = print_section head.fields head.last in
    let ended = print_end head.line_end ++ (section ++ []) in
    let versioned = print_version head.minor ++ ended in
    let targeted = head.target ++ 32 ∷ versioned in
    let methoded = head.method ++ 32 ∷ targeted in
    omega (
      arith,
      split,
      fields,
      ap length (reads.1 ∙ print_request-append head []),
      length-append front (10 ∷ []),
      length-append (print_blank head.blank) methoded,
      length-append head.method (32 ∷ targeted),
      length-append head.target (32 ∷ versioned),
      length-append (print_version head.minor) ended,
      length-append (print_end head.line_end) (section ++ []),
      length-append section [],
      length-append (flat_map print_field head.fields) (print_end head.last),
    )
