-- What was taken by one step after another.
use Rattle.std.proofs.Common.{◌≡◌, ℕ, ◌≤◌, inl, inr, List, [], ◌∷◌, ◌++◌, length, None, Some, refl, sym, ap, ◌∙◌, subst, append_assoc, append-nil}
use Rattle.std.specs.{declared.option.Option.Option, Io.KnownBytes.Consumes, Io.KnownBytes.Keeps}
use Rattle.std.proofs.KnownBytes.{Consumes-kept, Consumes-nil, Consumes-trans, Keeps-trans}
use Rattle.http_messages.specs.{Incoming.Comes, Incoming.Grows, Incoming.IsNeeded, Incoming.Takes, Messages.IsMessage, Messages.IsUnfinished, declared.message.Incoming.Incoming}

pub grows_none : (held : List ℕ) (left : Option (List ℕ)) → Grows held held left left
grows_none held left = record { taken = []; takes = record { consumed = Consumes-nil left; needed = inl refl }; grown = sym (append-nil held) }

-- one more read, where the message was unfinished
pub grows_read : (held mid now : List ℕ) (a b c : Option (List ℕ)) (piece : List ℕ) → Grows held mid a b → IsUnfinished mid
    → now ≡ mid ++ piece → length piece ≤ 4096 → Consumes b c piece → Grows held now a c
grows_read held mid now a b c piece g unfinished is few consumed = record {
  taken = g.taken ++ piece;
  takes = record {
    consumed = Consumes-trans a b c g.taken piece g.takes.consumed consumed;
    needed = inr (g.taken, piece, refl, few, subst IsUnfinished g.grown unfinished);
  };
  grown = is ∙ ap (λ (l : List ℕ). l ++ piece) g.grown ∙ append_assoc held g.taken piece;
}

pub grows_kept : (held mid now : List ℕ) (a b c : Option (List ℕ)) → Grows held mid a b → now ≡ mid → Keeps b c → Grows held now a c
grows_kept held mid now a b c g is kept = record {
  taken = g.taken;
  takes = record { consumed = Consumes-kept a b c g.taken g.takes.consumed kept; needed = g.takes.needed };
  grown = is ∙ g.grown;
}

takes_trans : (held mid : List ℕ) (a b c : Option (List ℕ)) (taken more : List ℕ) → Takes held a b taken → mid ≡ held ++ taken
    → Takes mid b c more → Takes held a c (taken ++ more)
takes_trans held mid a b c taken more first is second =
    record { consumed = Consumes-trans a b c taken more first.consumed second.consumed; needed = by first.needed second.needed }
  where
    by : IsNeeded held taken → IsNeeded mid more → IsNeeded held (taken ++ more)
    by old (inr (before, last, whole, few, unfinished)) =
        inr (
          taken ++ before,
          last,
          ap (λ (l : List ℕ). taken ++ l) whole ∙ sym (append_assoc taken before last),
          few,
          subst IsUnfinished (ap (λ (l : List ℕ). l ++ before) is ∙ append_assoc held taken before) unfinished,
        )
    by (inl none) (inl no_more) = inl (ap (λ (l : List ℕ). taken ++ l) no_more ∙ append-nil taken ∙ none)
    by (inr (before, last, whole, few, unfinished)) (inl no_more) =
        inr (before, last, ap (λ (l : List ℕ). taken ++ l) no_more ∙ append-nil taken ∙ whole, few, unfinished)

pub grows_trans : (held mid now : List ℕ) (a b c : Option (List ℕ)) → Grows held mid a b → Grows mid now b c → Grows held now a c
grows_trans held mid now a b c first second = record {
  taken = first.taken ++ second.taken;
  takes = takes_trans held mid a b c first.taken second.taken first.takes first.grown second.takes;
  grown = second.grown ∙ ap (λ (l : List ℕ). l ++ second.taken) first.grown ∙ append_assoc held first.taken second.taken;
}

nil_parts : (xs ys : List ℕ) → xs ++ ys ≡ [] → (xs ≡ []) × (ys ≡ [])
nil_parts [] ys none = (refl, none)
nil_parts (x ∷ xs) ys none = absurd (cc)

keeps_nothing : (a b : Option (List ℕ)) (bytes : List ℕ) → Consumes a b bytes → bytes ≡ [] → Keeps a b
keeps_nothing None b bytes consumed none = tt
keeps_nothing (Some x) None bytes consumed none = absurd consumed
keeps_nothing (Some x) (Some y) bytes consumed none = sym (consumed ∙ ap (λ (l : List ℕ). l ++ y) none)

-- where nothing is held in the end, nothing was held and nothing taken
pub grows_nothing : (held now : List ℕ) (a b : Option (List ℕ)) → Grows held now a b → now ≡ [] → (held ≡ []) × Keeps a b
grows_nothing held now a b g none =
    let both = nil_parts held g.taken (sym g.grown ∙ none) in
    (both.0, keeps_nothing a b g.taken g.takes.consumed both.1)

-- what comes after some reads comes of all that was read
pub comes_after : (held mid now : List ℕ) (a b c : Option (List ℕ)) (what : Incoming) → Grows held mid a b → Comes mid now b c what → Comes held now a c what
comes_after held mid now a b c (Incoming.Message message) g (taken, takes, is) = (
  g.taken ++ taken,
  takes_trans held mid a b c g.taken taken g.takes g.grown takes,
  subst (λ (l : List ℕ). IsMessage l message now) (ap (λ (l : List ℕ). l ++ taken) g.grown ∙ append_assoc held g.taken taken) is,
)
comes_after held mid now a b c Incoming.End g comes =
    let none = grows_nothing held mid a b g comes.0 in
    (none.0, comes.1, Keeps-trans a b c none.1 comes.2, comes.3)
comes_after held mid now a b c Incoming.Cut g comes = (grows_trans held mid now a b c g comes.0, comes.1, comes.2, comes.3)
comes_after held mid now a b c (Incoming.Refused why) g comes = (grows_trans held mid now a b c g comes.0, comes.1)
comes_after held mid now a b c Incoming.Failed g comes = (grows_trans held mid now a b c g comes.0, comes.1)
comes_after held mid now a b c Incoming.NoMemory g comes = (grows_trans held mid now a b c g comes.0, comes.1)
