-- What comes of a line that is held.
use Rattle.std.proofs.Common.{◌≡◌, ℕ, List, [], ◌∷◌, ◌++◌, Some, None, ap, sym, ◌∙◌, append_assoc, IfSome}
use Rattle.std.specs.{Prelude.Option, Io.KnownBytes.Keeps, Io.KnownBytes.Consumes, Io.KnownBytes.prepend_known}
use Rattle.line_input.specs.Reading.{Reading, Comes, TakesHeld, BeginsLong}
use Rattle.line_input.specs.declared.reader.Next.{Next}

-- the front of what is held is the front of what is left
consumed : (start left : Option (List ℕ)) (old front rest : List ℕ) → Keeps start (prepend_known old left) → old ≡ front ++ rest
    → Consumes start (prepend_known rest left) front
consumed None left old front rest kept is = tt
consumed (Some x) None old front rest kept is = absurd kept
consumed (Some x) (Some y) old front rest kept is = sym kept ∙ ap (λ l. l ++ y) is ∙ append_assoc front rest y

-- a long line that is held is a long line of what is left
long-left : (most : ℕ) (left : Option (List ℕ)) (held : List ℕ) → BeginsLong most held → IfSome (prepend_known held left) (BeginsLong most)
long-left most None held long = tt
long-left most (Some y) held long = record {
  front = long.front;
  rest = long.rest ++ y;
  whole = ap (λ l. l ++ y) long.whole ∙ append_assoc long.front long.rest y;
  endless = long.endless;
  long = long.long;
}

pub comes-held : (most : ℕ) (start left : Option (List ℕ)) (old new : Reading) (what : Next) → TakesHeld most old new what
    → Keeps start (prepend_known old.rest left) → Comes most start (prepend_known new.rest left) new what
comes-held most start left old new Next.Line held kept =
    (held.0, held.1, consumed start left old.rest (new.line ++ 10 ∷ []) new.rest kept (held.2 ∙ sym (append_assoc new.line (10 ∷ []) new.rest)))
comes-held most start left old new Next.TooLong held kept =
    rw (held.0) (kept, long-left most left old.rest held.1)
comes-held most start left old new Next.Last held kept = absurd held
comes-held most start left old new Next.End held kept = absurd held
comes-held most start left old new Next.Failed held kept = absurd held
comes-held most start left old new Next.NoMemory held kept = absurd held
