-- Nobody has used the links that are made of inputs.
use Rattle.std.proofs.Common.{ℕ, List, [], ◌∷◌, map, refl}
use Rattle.std.specs.{Prelude.Some, List.All}
use Rattle.std.proofs.lemmas.List.Elements.{All-cons, All-nil}
use Rattle.office_io.specs.Memory.{Given, Taken}
use Rattle.office_links.specs.{Links.standing_by, Memory.IsUnused, Memory.link_of, declared.link.Link.Link}

-- nobody has used this link in memory
abbrev pub IsNew : Link Given Taken → Type 0
IsNew link = IsUnused (standing_by (λ source. Some source.left) (λ source. source.plan.faults) (λ sink. Some sink.held) (λ sink. sink.plan.faults) link.source link.sink)

pub made-unused : (room : ℕ) (inputs : List (List ℕ)) → All IsNew (map (link_of room) inputs)
made-unused room [] = All-nil IsNew
made-unused room (input ∷ inputs) = All-cons IsNew (link_of room input) (map (link_of room) inputs) refl (made-unused room inputs)
