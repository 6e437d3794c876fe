-- A stream is cut in one way.
use Rattle.std.proofs.Common.{◌≡◌, ℕ, ◌⊎◌, inl, inr, true, false, List, [], ◌∷◌, length, refl, sym, ap, ◌∙◌, subst, arith}
use Rattle.http_messages.specs.{Cutting.CutInOneWay, Cutting.Cuts, Cutting.Ending, Cutting.SettledByTheFront, Cutting.Stops, Cutting.between, Cutting.closed, Cutting.inside, Cutting.refused, Messages.IsMessage, Messages.IsUnfinished, declared.message.Message.Message}
use Rattle.http_messages.proofs.Fronts.{empty_unfinished, message_more, message_not_refused, message_not_unfinished, one_message, one_refusal, refused_more, refused_not_unfinished}

-- a stream that stops has no message at its front
stopped : (bytes : List ℕ) (ending : Ending) (m : Message) (rest : List ℕ) → Stops bytes ending → IsMessage bytes m rest → ⊥
stopped bytes closed m rest stops is = stops
stopped bytes between m rest stops is =
    message_not_unfinished bytes m rest is (subst IsUnfinished (sym stops) empty_unfinished)
stopped bytes inside m rest stops is = message_not_unfinished bytes m rest is stops.0
stopped bytes (refused why) m rest stops is = message_not_refused bytes m rest why is stops

one_stop : (bytes : List ℕ) (ending other : Ending) → Stops bytes ending → Stops bytes other → ending ≡ other
one_stop bytes closed other a b = absurd a
one_stop bytes between closed a b = absurd b
one_stop bytes between between a b = refl
one_stop bytes between inside a b = absurd (omega (arith, ap length a, b.1))
one_stop bytes between (refused why) a b = absurd (refused_not_unfinished bytes why b (subst IsUnfinished (sym a) empty_unfinished))
one_stop bytes inside closed a b = absurd b
one_stop bytes inside between a b = absurd (omega (arith, ap length b, a.1))
one_stop bytes inside inside a b = refl
one_stop bytes inside (refused why) a b = absurd (refused_not_unfinished bytes why b a.0)
one_stop bytes (refused why) closed a b = absurd b
one_stop bytes (refused why) between a b = absurd (refused_not_unfinished bytes why a (subst IsUnfinished (sym b) empty_unfinished))
one_stop bytes (refused why) inside a b = absurd (refused_not_unfinished bytes why a b.0)
one_stop bytes (refused why) (refused cause) a b = ap refused (one_refusal bytes why cause a b)

closes_or_not : (m n : Message) → m ≡ n → m.asks_close ≡ false → n.asks_close ≡ true → ⊥
closes_or_not m n same stays closes =
    let both : false ≡ true = sym stays ∙ ap (λ (x : Message). x.asks_close) same ∙ closes in cc

pub cut_in_one_way_lem : CutInOneWay
cut_in_one_way_lem bytes [] [] ending other a b = (refl, one_stop bytes ending other a b)
cut_in_one_way_lem bytes [] (n ∷ ns) ending other a (after, is, b) = absurd (stopped bytes ending n after a is)
cut_in_one_way_lem bytes (m ∷ ms) [] ending other (after, is, a) b = absurd (stopped bytes other m after b is)
cut_in_one_way_lem bytes (m ∷ ms) (n ∷ ns) ending other (after, is, a) (behind, also, b) =
    by (cut_in_one_way_lem behind ms ns ending other) a b
  where
    same : (m ≡ n) × (after ≡ behind)
    same = one_message bytes m n after behind is also

    by : (Cuts behind ms ending → Cuts behind ns other → (ms ≡ ns) × (ending ≡ other))
        → ((m.asks_close ≡ false) × Cuts after ms ending) ⊎ ((m.asks_close ≡ true) × (ms ≡ []) × (ending ≡ closed))
        → ((n.asks_close ≡ false) × Cuts behind ns other) ⊎ ((n.asks_close ≡ true) × (ns ≡ []) × (other ≡ closed))
        → (m ∷ ms ≡ n ∷ ns) × (ending ≡ other)
    by later (inl x) (inl y) =
        let rest = later (subst (λ (l : List ℕ). Cuts l ms ending) same.1 x.1) y.1 in
        (λ i. same.0 i ∷ rest.0 i, rest.1)
    by later (inl x) (inr y) = absurd (closes_or_not m n same.0 x.0 y.0)
    by later (inr x) (inl y) = absurd (closes_or_not n m (sym same.0) y.0 x.0)
    by later (inr x) (inr y) = (λ i. same.0 i ∷ (x.1 ∙ sym y.1) i, x.2 ∙ sym y.2)

pub settled_by_the_front_lem : SettledByTheFront
settled_by_the_front_lem = record { message = message_more; refusal = refused_more }
