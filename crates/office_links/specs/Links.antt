-- What a listener tells of its links, and what one call does to that and to its count of faults.
use Rattle.std.specs.Prelude.{◌≡◌, ℕ, ◌+◌, ◌<◌, ◌≤◌, nat_lt, Option, Some, if◌then◌else◌, List, [], ◌∷◌, ◌++◌, length}
use Rattle.office_io.specs.Outside.{Faulted}
use Rattle.office_links.specs.declared.listener.Accepted.{Accepted}

-- a link as it stands: the bytes that its source has left and its sink holds, where these tell them, and the faults of both
pub record Standing : Type 0 where
  pub left : Option (List ℕ)
  pub held : Option (List ℕ)
  pub failed_reads : ℕ
  pub failed_writes : ℕ

-- a link of these bytes that nobody has used yet
abbrev pub unused : List ℕ → Standing
unused bytes = record { left = Some bytes; held = Some []; failed_reads = 0; failed_writes = 0 }

-- the bytes of each link that is left, the links given back, and for how many of both together there is room
pub record Links : Type 0 where
  pub left : List (List ℕ)
  pub given_back : List Standing
  pub room : ℕ

-- of a listener that doesn't tell its links: how many are left, and the faults so far
pub record Remaining : Type 0 where
  pub left : ℕ
  pub faults : ℕ

-- so many links are left, and with those given back they are at most as many as there is room for
abbrev pub Fits : ℕ → Links → Type 0
Fits left links = (length links.left ≡ left) × (length links.left + length links.given_back ≤ links.room)

-- after one more is given back: it is dropped where there is no room for it
abbrev pub after_giving_back : Links → Standing → Links
after_giving_back links link =
    if nat_lt (length links.left + length links.given_back) links.room
    then record links { given_back = links.given_back ++ link ∷ [] }
    else links

module _ {In Out : Type 0} where
  -- how a link stands, by what its source and its sink tell
  abbrev pub standing_by : (In → Option (List ℕ)) → (In → ℕ) → (Out → Option (List ℕ)) → (Out → ℕ) → In → Out → Standing
  standing_by left failed_reads held failed_writes source sink =
      record { left = left source; held = held sink; failed_reads = failed_reads source; failed_writes = failed_writes sink }

  -- a link is one of those that were left, and the end comes exactly where none was
  abbrev pub Counts : ℕ → ℕ → Accepted In Out → Type 0
  Counts before now (Accepted.Link source sink) = before ≡ now + 1
  Counts before now Accepted.End = (before ≡ 0) × (now ≡ before)
  Counts before now Accepted.Failed = (0 < before) × (now ≡ before)

  -- an accept answers Failed only where it counted a fault
  abbrev pub AcceptCause : ℕ → ℕ → Accepted In Out → Type 0
  AcceptCause before now Accepted.Failed = Faulted before now
  AcceptCause before now _ = now ≡ before

  -- the first of the links that were left comes as nobody has used it yet, and all others stay
  abbrev pub Accepts : (In → Out → Standing) → Links → Option Links → Accepted In Out → Type 0
  Accepts standing links now (Accepted.Link source sink) =
      (bytes : List ℕ) × (rest : List (List ℕ)) × (links.left ≡ bytes ∷ rest) × (standing source sink ≡ unused bytes)
      × (now ≡ Some (record links { left = rest }))
  Accepts standing links now _ = now ≡ Some links
