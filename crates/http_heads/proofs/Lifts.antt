-- What a look found stays true when bytes follow.
use Rattle.std.proofs.Common.{◌≡◌, ℕ, ◌+◌, ◌-◌, ◌≤◌, ◌==◌, ◌||◌, Bool, map, min, false, List, ◌++◌, length, take, drop, sym, ap, ◌∙◌, subst, arith, length-append, length-take, take-append-drop}
use Rattle.std.specs.Prelude.{Result}
use Rattle.std.proofs.lemmas.{List.drop-append-le, List.take-append-le, List.take-take, Slice.between_is}
use Rattle.httparse.specs.{Grammar.NeverHasRequest, Grammar.ReadsRequest, Grammar.print_request, Spans.IsRequestOf, Spans.IsRequestWithin, Spans.IsWithin, Spans.header_bytes, Spans.span_bytes, declared.spans.HeaderSpan.HeaderSpan, declared.spans.RequestSpans.RequestSpans, declared.spans.Span.Span}
use Rattle.httparse.proofs.GrammarLemmas.{ReadsRequest-append}
use Rattle.http_heads.specs.{Headers.Header, Headers.headers_of, Headers.is_closing, Headers.judged, Heads.IsHopelessAt, Heads.ends_in_target, Looks.IsFoundIn, Looks.Looks, declared.fault.Fault.Fault, declared.look.FoundHead.FoundHead, declared.look.Look.Look}
use Rattle.http_heads.proofs.Targets.{take_past}

span_more : (bytes more : List ℕ) (span : Span) → IsWithin (length bytes) span → span_bytes (bytes ++ more) span ≡ span_bytes bytes span
span_more bytes more span within =
    between_is (bytes ++ more) span.start span.end ∙ ap (drop span.start) (take-append-le span.end bytes more within.1)
    ∙ sym (between_is bytes span.start span.end)

within_more : (bytes more : List ℕ) (span : Span) → IsWithin (length bytes) span → IsWithin (length (bytes ++ more)) span
within_more bytes more span within = (within.0, omega (arith, within.1, length-append bytes more))

-- a head that was found is there still, with what follows behind it
pub found_more : (bytes more : List ℕ) (found : FoundHead) → IsFoundIn bytes found → IsFoundIn (bytes ++ more) found
found_more bytes more found f = record {
  head = f.head;
  within = omega (arith, f.within, length-append bytes more);
  has = (
    subst (λ (l : List ℕ). ReadsRequest (bytes ++ more) f.head l) (sym (drop-append-le found.end bytes more f.within))
        (ReadsRequest-append bytes f.head (drop found.end bytes) more f.has.0),
    f.has.1,
  );
  is = record {
    within = (within_more bytes more found.method f.is.within.0, within_more bytes more found.target f.is.within.1);
    method = span_more bytes more found.method f.is.within.0 ∙ f.is.method;
    target = span_more bytes more found.target f.is.within.1 ∙ f.is.target;
    asks_close = f.is.asks_close;
    body = f.is.body;
  };
}

hopeless_cut : (bytes : List ℕ) (cut n : ℕ) → n ≤ cut → IsHopelessAt bytes n → IsHopelessAt (take cut bytes) n
hopeless_cut bytes cut n le hopeless =
    let same : take n (take cut bytes) ≡ take n bytes = take-take n cut bytes le in
    (subst (λ (l : List ℕ). NeverHasRequest l) (sym same) hopeless.0, subst (λ (l : List ℕ). ends_in_target l ≡ false) (sym same) hopeless.1)

-- what a look at the front that a head may fill says of all bytes
pub looks_front : (bytes : List ℕ) (cut : ℕ) (what : Look) → cut ≡ min (length bytes) 16384 → Looks (take cut bytes) what → Looks bytes what
looks_front bytes cut (Look.Head found) is looks =
    subst (λ (l : List ℕ). IsFoundIn l found) (take-append-drop cut bytes) (found_more (take cut bytes) (drop cut bytes) found looks)
looks_front bytes cut Look.Open is looks = (
  λ head rest has.
      let size : length bytes ≡ length (print_request head) + length rest = ap length has.0.1 ∙ length-append (print_request head) rest in
      let fits : length (print_request head) ≤ cut = omega (arith, has.1) in
      looks.0 head (take (cut - length (print_request head)) rest)
      ((has.0.0, ap (take cut) has.0.1 ∙ take_past (print_request head) rest cut fits), has.1),
  λ hopeless. looks.1 (
    hopeless.0,
    hopeless.1,
    omega (arith, hopeless.1, hopeless.2, length-take cut bytes),
    hopeless_cut bytes cut hopeless.0 (omega (arith, hopeless.1, hopeless.2)) hopeless.3,
  ),
)
looks_front bytes cut Look.Hopeless is looks =
    let n = looks.0 in
    let le : n ≤ cut = omega (arith, looks.2, length-take cut bytes) in
    let same : take n (take cut bytes) ≡ take n bytes = take-take n cut bytes le in (
      n,
      looks.1,
      omega (arith, looks.2, length-take cut bytes),
      (subst (λ (l : List ℕ). NeverHasRequest l) same looks.3.0, subst (λ (l : List ℕ). ends_in_target l ≡ false) same looks.3.1),
    )

-- what the parser found
pub found_in : (bytes : List ℕ) (spans : List HeaderSpan) (head : RequestSpans) (close : Bool) (body : Result ℕ Fault) → length bytes ≤ 16384
    → IsRequestWithin bytes spans head → IsRequestOf bytes spans head
    → close ≡ (head.version == 0 || is_closing (map (header_bytes bytes) (take head.headers spans)))
    → body ≡ judged (map (header_bytes bytes) (take head.headers spans))
    → IsFoundIn bytes (record { method = head.method; target = head.path; end = head.len; asks_close = close; body = body })
found_in bytes spans head close body short within (h, at) closes says = record {
  head = h;
  within = within.section.len_fits;
  has = (at.reads, omega (arith, at.len, within.section.len_fits));
  is = record {
    within = (
      (within.method.0, omega (arith, within.method.1, within.section.len_fits)),
      (within.path.0, omega (arith, within.path.1, within.section.len_fits)),
    );
    method = at.method;
    target = at.path;
    asks_close = closes ∙ ap (λ (l : List Header). head.version == 0 || is_closing l) at.fields ∙ ap (λ (n : ℕ). n == 0 || is_closing (headers_of h)) at.version;
    body = says ∙ ap judged at.fields;
  };
}
