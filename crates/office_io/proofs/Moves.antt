-- What several reads and writes move, one after the other.
use Rattle.std.proofs.Common.{◌≡◌, ℕ, ◌+◌, ◌-◌, ◌≤◌, List, ◌++◌, length, take, drop, sym, ap, subst, ◌∙◌, arith, length-drop}
use borrow.Rule.Slice.PartMut.{put_mid, post_of, same_len_mid}
use Rattle.std.specs.{declared.option.Option.Option, Io.KnownBytes.Appends, Io.KnownBytes.Consumes}
use Rattle.std.proofs.{KnownBytes.Appends-trans, KnownBytes.Consumes-trans, Math.Seq.take-add, Math.Seq.take-append-add, Math.Seq.take-append_seam}
use Rattle.std.proofs.lemmas.List.{take_rest, length-take-le, take-append-le, take-append-drop, drop-drop}

-- a write of the rest of a piece appended its next bytes
pub Appends-next : (a b c : Option (List ℕ)) (done n : ℕ) (piece : List ℕ) → Appends a b (take done piece)
    → Appends b c (take n (take (length piece - done) (drop done piece))) → Appends a c (take (done + n) piece)
Appends-next a b c done n piece first second =
    subst (Appends a c) (sym (take-add done n piece))
    (Appends-trans a b c _ _ first (rw (take_rest piece done) at second))

-- a read into the rest of a buffer keeps the buffer's length
pub length-behind : (buffer part : List ℕ) (done : ℕ) → length part ≡ length (take (length buffer - done) (drop done buffer))
    → length (put_mid done (length buffer - done) buffer part) ≡ length buffer
length-behind buffer part done sized = same_len_mid done (length buffer - done) buffer part sized

-- and what it read stays within it
pub behind-within : (buffer part : List ℕ) (done n : ℕ) → done ≤ length buffer
    → length part ≡ length (take (length buffer - done) (drop done buffer)) → n ≤ length part
    → done + n ≤ length (put_mid done (length buffer - done) buffer part)
behind-within buffer part done n le sized few =
    let rest : length (drop done buffer) ≡ length buffer - done = length-drop done buffer in
    let same : length (put_mid done (length buffer - done) buffer part) ≡ length buffer = length-behind buffer part done sized in
    let whole : length part ≡ length (drop done buffer) = sized ∙ ap length (take_rest buffer done) in
    omega arith

-- a read into the rest of a buffer took the next bytes
pub Consumes-next : (a b c : Option (List ℕ)) (buffer part : List ℕ) (done n : ℕ) → done ≤ length buffer → n ≤ length part
    → Consumes a b (take done buffer) → Consumes b c (take n part)
    → Consumes a c (take (done + n) (put_mid done (length buffer - done) buffer part))
Consumes-next a b c buffer part done n le few first second =
    let front = take done buffer in let rest = post_of done (length buffer - done) buffer in
    let sized : length front ≡ done = length-take-le done buffer le in
    let moved : take (done + n) (front ++ (part ++ rest)) ≡ front ++ take n part =
    ap (λ i. take (i + n) (front ++ (part ++ rest))) (sym sized) ∙ take-append-add front (part ++ rest) n
    ∙ ap (λ xs. front ++ xs) (take-append-le n part rest few) in
    subst (Consumes a c) (sym moved) (Consumes-trans a b c front (take n part) first second)

-- what a read copied is what it took from the front of the bytes that were left
pub take-copied : (bytes part rest : List ℕ) (at n : ℕ) → part ≡ take n (drop at bytes) → length part ≡ n
    → drop at bytes ≡ take n (part ++ rest) ++ drop (at + n) bytes
take-copied bytes part rest at n copied sized =
    let front : take n (part ++ rest) ≡ part = ap (λ i. take i (part ++ rest)) (sym sized) ∙ take-append_seam part rest in
    sym (take-append-drop n (drop at bytes)) ∙ ap (λ xs. xs ++ drop n (drop at bytes)) (sym (front ∙ copied))
    ∙ ap (λ xs. take n (part ++ rest) ++ xs) (drop-drop n at bytes)
