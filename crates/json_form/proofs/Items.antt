-- Reading items one after the other, as a loop does.
use Rattle.std.proofs.Common.{◌≡◌, ℕ, suc, ◌+◌, ◌≤◌, ◌<◌, List, [], ◌∷◌, ◌++◌, length, get_or, drop, Result, Ok, Err, refl, sym, ap, ◌∙◌, append_assoc, add-one, drop-cons}
use Rattle.std.proofs.{Math.ListN.drop_of_length-le, lemmas.List.append-nil}
use Rattle.serde_json.specs.Data.{Data, item}
use Rattle.serde_json.specs.{View.view, View.items_view, declared.value.Value.Value}
use Rattle.json_form.specs.{Path.position, Gives.Faults, declared.fault.FormFault.FormFault, declared.fault.FormFault.TheVariants.BadField, declared.fault.FormFault.TheVariants.NoMemory}
use Rattle.json_form.specs.Form.{◌>>=◌, under, count_of, items_from}

pub length_as_count : (vs : List Value) → count_of (items_view vs) ≡ length vs
length_as_count [] = refl
length_as_count (v ∷ vs) = ap suc (length_as_count vs)

-- what was read before, and what is still read
abbrev pub with_front : {A : Type 0} → List A → Result (List A) (List ℕ) → Result (List A) (List ℕ)
with_front front rest = rest >>= λ xs. Ok (front ++ xs)

regroup : {A : Type 0} (front : List A) (x : A) (rest : Result (List A) (List ℕ)) → with_front front (rest >>= λ xs. Ok (x ∷ xs)) ≡ with_front (front ++ x ∷ []) rest
regroup front x (Ok xs) = ap (λ ys. Ok ys) (simp append_assoc)
regroup front x (Err path) = refl

module _ {A : Type 0} (read : Data → Result A (List ℕ)) (vs : List Value) (front : List A) (index : ℕ) (total : Result (List A) (List ℕ))
    (so_far : with_front front (items_from read index (items_view (drop index vs))) ≡ total) where
  module _ (v : Value) (within : index < length vs) (is : v ≡ get_or vs index v) where
    next_item : items_view (drop index vs) ≡ item (view v) (items_view (drop (index + 1) vs))
    next_item = ap items_view (drop-cons vs index v within) ∙ rw (add-one, ← is) refl

    pub goes_on : (x : A) → under (position index) (read (view v)) ≡ Ok x
        → with_front (front ++ x ∷ []) (items_from read (index + 1) (items_view (drop (index + 1) vs))) ≡ total
    unfolding items_from
    goes_on x now = sym (regroup front x (items_from read (index + 1) (items_view (drop (index + 1) vs)))) ∙ rw (next_item, now) at so_far

    pub ends : (fault : FormFault) → Faults fault (under (position index) (read (view v))) → Faults fault total
    unfolding items_from
    ends NoMemory now = tt
    ends (BadField path) now = sym so_far ∙ rw (next_item, now) refl

  pub is_done : length vs ≤ index → total ≡ Ok front
  unfolding items_from
  is_done past = sym so_far ∙ rw (drop_of_length-le vs past) (ap (λ ys. Ok ys) (append-nil front))
