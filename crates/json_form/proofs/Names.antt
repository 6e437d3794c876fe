-- The names of an object's members, as a map's keys and as the forms see them.
use Rattle.std.proofs.Common.{◌≡◌, ℕ, ◌||◌, Bool, not, List, [], ◌∷◌, map, Bor, ap, refl}
use Rattle.std.specs.Prelude.{String, string_bytes, bytes_eq}
use Rattle.std.specs.{List.list_any, BTreeMap.BTreeMap, BTreeMap.keys, Map.keys_of, declared.alloc.Global.Global}
use Rattle.serde_json.specs.{View.members_view, declared.value.Value.Value}
use Rattle.json_form.specs.Form.{has_other}

list_any-map : {X Y : Type 0} (f : X → Y) (test : Y → Bool) (xs : List X) → list_any test (map f xs) ≡ list_any (λ x. test (f x)) xs
list_any-map f test [] = refl
list_any-map f test (x ∷ xs) = ap (λ others. test (f x) || others) (list_any-map f test xs)

-- the name is not among the listed ones, which lie behind references
abbrev pub is_other : List (Bor (List ℕ)) → String Global → Bool
is_other names name = not (list_any (λ listed. bytes_eq (string_bytes name) listed.now) names)

has_other-entries : (names : List (Bor (List ℕ))) (entries : List (String Global × Value)) → has_other (map (λ name. name.now) names) (members_view entries) ≡ list_any (is_other names) (keys_of entries)
has_other-entries names [] = refl
has_other-entries names (entry ∷ entries) = rw (list_any-map (λ name. name.now) (bytes_eq (string_bytes entry.0)) names, has_other-entries names entries) refl

pub has_other-keys : (names : List (Bor (List ℕ))) (members : BTreeMap (String Global) Value) → has_other (map (λ name. name.now) names) (members_view members.entries) ≡ list_any (is_other names) (keys members)
has_other-keys names members = has_other-entries names members.entries
