-- Plain values: their compact text is UTF-8, and is read again as the same data.
use Rattle.std.proofs.Common.{◌≡◌, ℕ, zero, suc, ◌<◌, ◌≤◌, ◌^◌, ◌&&◌, ◌++◌, Bool, true, false, List, [], ◌∷◌, Some, option_map, IsUtf8, append-nil, refl, sym, ap, ◌∙◌, arith}
use Rattle.std.specs.Prelude.{⊤}
use Rattle.std.proofs.{Math.Nat.max-le, lemmas.Bool.and_parts, lemmas.Fmt.IsAscii-decimal, lemmas.Str.IsUtf8-append, lemmas.Str.IsUtf8-from_ascii}
use Rattle.json.specs.{Lex.tokens, Tree.json_tokens, Print.quoted}
use Rattle.json.specs.Tree as tree
use Rattle.json.proofs.Printed.{Decimals.IsNumber-decimal, Tokens.tokens-print, Trees.value-json_tokens, Trees.ArePrintable-json_tokens}
use Rattle.json.proofs.Printed.Utf8.{are_ascii, IsUtf8-are_ascii, IsUtf8-quoted, IsUtf8-boolean}
use Rattle.serde_json.specs.Data.{Num, unsigned, negative, float, Data, null, boolean, number, string, array, object, Items, no_items, item, Members, no_members, member, put}
use Rattle.serde_json.specs.Read.{of_json, of_items, of_members}
use Rattle.serde_json.specs.Written.{outline, items_outline, members_outline, comma_if, compact_text, items_text, members_text}
use Rattle.serde_json.proofs.{Numbers.number_of-decimal, Texts.print-outline}
use Rattle.json_form.specs.Form.{data_from}
use Rattle.json_form.proofs.Texts.{data_from_text}

-- the members that reading makes of some that stand in that order
abbrev puts : Members → Members → Members
puts found no_members = found
puts found (member k d ms) = puts (put k d found) ms

abbrev has_ascii_names : Members → Bool
has_ascii_names no_members = true
has_ascii_names (member k d ms) = are_ascii k && has_ascii_names ms

abbrev IsWhole : Num → Type 0
IsWhole (unsigned n) = n < 2 ^ 64
IsWhole (negative z) = ⊥
IsWhole (float x) = ⊥

-- whole numbers and texts, in arrays and objects to that depth, where names are ASCII and stand in their order
abbrev mutual
  pub IsPlain : ℕ → Data → Type 0
  IsPlain n null = ⊤
  IsPlain n (boolean b) = ⊤
  IsPlain n (number x) = IsWhole x
  IsPlain n (string s) = IsUtf8 s
  IsPlain zero (array ds) = ⊥
  IsPlain (suc n) (array ds) = ArePlain n ds
  IsPlain zero (object ms) = ⊥
  IsPlain (suc n) (object ms) = (puts no_members ms ≡ ms) × (has_ascii_names ms ≡ true) × MembersArePlain n ms

  pub ArePlain : ℕ → Items → Type 0
  ArePlain n no_items = ⊤
  ArePlain n (item d ds) = IsPlain n d × ArePlain n ds

  pub MembersArePlain : ℕ → Members → Type 0
  MembersArePlain n no_members = ⊤
  MembersArePlain n (member k d ms) = IsPlain n d × MembersArePlain n ms

-- ---- what holds of plain data, part by part

comma_text : (later : Bool) → IsUtf8 (comma_if later)
comma_text true = IsUtf8-are_ascii (44 ∷ []) refl
comma_text false = IsUtf8-are_ascii [] refl

then_text : (byte : ℕ) (rest : List ℕ) → are_ascii (byte ∷ []) ≡ true → IsUtf8 rest → IsUtf8 (byte ∷ rest)
then_text byte rest h text = IsUtf8-append (byte ∷ []) rest (IsUtf8-are_ascii (byte ∷ []) h) text

-- its text stands for the same data again, has whole numbers and so much depth, and is UTF-8
record IsReadable (n : ℕ) (d : Data) : Type 0 where
  again : of_json (outline d) ≡ Some d
  numbers : tree.HasNumbers (outline d)
  shallow : tree.depth (outline d) ≤ n
  text : IsUtf8 (compact_text d)

record AreReadable (n : ℕ) (ds : Items) : Type 0 where
  again : of_items (items_outline ds) ≡ Some ds
  numbers : tree.ItemsHaveNumbers (items_outline ds)
  shallow : tree.items_depth (items_outline ds) ≤ n
  text : (later : Bool) → IsUtf8 (items_text later ds)

record MembersAreReadable (n : ℕ) (ms : Members) : Type 0 where
  again : (found : Members) → of_members (members_outline ms) found ≡ Some (puts found ms)
  numbers : tree.MembersHaveNumbers (members_outline ms)
  shallow : tree.members_depth (members_outline ms) ≤ n
  text : (later : Bool) → IsUtf8 (members_text later ms)

mutual
  readable : (n : ℕ) (d : Data) → IsPlain n d → IsReadable n d
  readable n null h = record { again = refl; numbers = tt; shallow = omega arith; text = IsUtf8-are_ascii (compact_text null) refl }
  readable n (boolean b) h = record { again = refl; numbers = tt; shallow = omega arith; text = IsUtf8-boolean b }
  readable n (number (unsigned x)) h =
      record { again = ap (option_map number) (number_of-decimal x h); numbers = IsNumber-decimal x h; shallow = omega arith; text = IsUtf8-from_ascii _ (IsAscii-decimal x h) }
  readable n (number (negative z)) h = absurd h
  readable n (number (float x)) h = absurd h
  readable n (string s) h = record { again = refl; numbers = tt; shallow = omega arith; text = IsUtf8-quoted s h }
  readable zero (array ds) h = absurd h
  readable (suc n) (array ds) h =
      let parts = items_readable n ds h in
      record { again = ap (option_map array) parts.again; numbers = parts.numbers; shallow = omega (arith, parts.shallow); text = then_text 91 (items_text false ds) refl (parts.text false) }
  readable zero (object ms) h = absurd h
  readable (suc n) (object ms) h =
      let parts = members_readable n ms h.1 h.2 in
      record { again = rw (parts.again no_members, h.0) refl; numbers = parts.numbers; shallow = omega (arith, parts.shallow); text = then_text 123 (members_text false ms) refl (parts.text false) }

  items_readable : (n : ℕ) (ds : Items) → ArePlain n ds → AreReadable n ds
  items_readable n no_items h = record { again = refl; numbers = tt; shallow = omega arith; text = λ later. IsUtf8-are_ascii (93 ∷ []) refl }
  items_readable n (item d ds) h =
      let first = readable n d h.0 in
      let others = items_readable n ds h.1 in
      record {
        again = rw (first.again, others.again) refl;
        numbers = (first.numbers, others.numbers);
        shallow = max-le first.shallow others.shallow;
        text = λ later. IsUtf8-append (comma_if later) (compact_text d ++ items_text true ds) (comma_text later) (IsUtf8-append (compact_text d) (items_text true ds) first.text (others.text true));
      }

  members_readable : (n : ℕ) (ms : Members) → has_ascii_names ms ≡ true → MembersArePlain n ms → MembersAreReadable n ms
  members_readable n no_members names h = record { again = λ found. refl; numbers = tt; shallow = omega arith; text = λ later. IsUtf8-are_ascii (125 ∷ []) refl }
  members_readable n (member k d ms) names h =
      let both = and_parts (are_ascii k) (has_ascii_names ms) names in
      let first = readable n d h.0 in
      let others = members_readable n ms both.1 h.1 in
      let value = IsUtf8-append (compact_text d) (members_text true ms) first.text (others.text true) in
      record {
        again = λ found. rw first.again (others.again (put k d found));
        numbers = (first.numbers, others.numbers);
        shallow = max-le first.shallow others.shallow;
        text = λ later. IsUtf8-append (comma_if later) (quoted k ++ 58 ∷ (compact_text d ++ members_text true ms)) (comma_text later)
            (IsUtf8-append (quoted k) (58 ∷ (compact_text d ++ members_text true ms)) (IsUtf8-quoted k (IsUtf8-are_ascii k both.0)) (then_text 58 (compact_text d ++ members_text true ms) refl value));
      }

-- ---- both

pub read_compact : (n : ℕ) (d : Data) → n ≤ 127 → IsPlain n d → data_from (compact_text d) ≡ Some d
read_compact n d deep plain =
    let parts = readable n d plain in
    let printed = json_tokens (outline d) in
    let same : tokens (compact_text d) ≡ printed ++ [] = ap tokens (sym (print-outline d)) ∙ tokens-print printed (ArePrintable-json_tokens (outline d) parts.numbers) ∙ sym (append-nil printed) in
    data_from_text (compact_text d) d parts.text (rw (same, value-json_tokens (outline d) 127 [] (omega (arith, parts.shallow))) parts.again)
