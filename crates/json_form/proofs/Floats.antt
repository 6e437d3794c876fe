-- Values without floats: an array or an object of such values has none.
use Rattle.std.proofs.Common.{◌≡◌, ℕ, false, List, [], ◌∷◌, ◌++◌, Ordering, Less, Equal, Greater, refl}
use Rattle.std.specs.{Ordering.nat_cmp, Ordering.match_ordering, Cmp.Lexicographic.slice_cmp}
use Rattle.std.proofs.lemmas.Bool.{or_parts}
use Rattle.serde_json.specs.Data.{Data, Members, no_members, member, put}
use Rattle.serde_json.specs.{View.view, View.items_view, Written.has_float, Written.items_have_float, Written.members_have_float, declared.value.Value.Value}

pub items_without_float : (vs : List Value) (v : Value) → items_have_float (items_view vs) ≡ false → has_float (view v) ≡ false → items_have_float (items_view (vs ++ v ∷ [])) ≡ false
items_without_float [] v none one = rw one refl
items_without_float (w ∷ vs) v none one =
    let both = or_parts (has_float (view w)) (items_have_float (items_view vs)) none in
    rw (both.0, items_without_float vs v both.1 one) refl

put_at : (o : Ordering) (name other : List ℕ) (d e : Data) (ms : Members) → has_float d ≡ false → has_float e ≡ false → members_have_float ms ≡ false
    → members_have_float (put name d ms) ≡ false
    → members_have_float (match_ordering o (member name d (member other e ms)) (member other d ms) (member other e (put name d ms))) ≡ false
put_at Less name other d e ms one there none later = rw (one, there, none) refl
put_at Equal name other d e ms one there none later = rw (one, none) refl
put_at Greater name other d e ms one there none later = rw (there, later) refl

pub put_without_float : (name : List ℕ) (d : Data) (ms : Members) → has_float d ≡ false → members_have_float ms ≡ false → members_have_float (put name d ms) ≡ false
put_without_float name d no_members one none = rw one refl
put_without_float name d (member other e ms) one none =
    let both = or_parts (has_float e) (members_have_float ms) none in
    put_at (slice_cmp nat_cmp name other) name other d e ms one both.0 both.1 (put_without_float name d ms one both.1)
