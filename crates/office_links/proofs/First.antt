-- What is known of the first of the links that are left, and of those behind it.
use Rattle.std.proofs.Common.{◌≡◌, ℕ, List, ◌∷◌, ◌++◌, map, refl, ap, subst, rules}
use Rattle.std.specs.{Prelude.Option, Prelude.Some, Prelude.None, List.All, Option.option_to_list}
use Rattle.std.proofs.lemmas.List.Elements.{All-tail}
use Rattle.office_links.specs.{Links.Standing, Links.Accepts, Memory.bytes_of, Memory.IsUnused, declared.link.Link.Link, declared.listener.Accepted.Accepted}

pub All-behind : {X : Type 0} (P : X → Type 0) (first : Option X) (all rest : List X) → all ≡ option_to_list first ++ rest → All P all → All P rest
All-behind P None all rest e holds = subst (All P) e holds
All-behind P (Some x) all rest e holds = All-tail P x rest (subst (All P) e holds)

pub All-first : {X : Type 0} (P : X → Type 0) (x : X) (all rest : List X) → all ≡ x ∷ rest → All P all → P x
All-first P x all rest e holds = subst (All P) e holds 0 x (search rules)

module _ {In Out : Type 0} (standing : In → Out → Standing) where
  -- how a link stands
  abbrev pub as_it_stands : Link In Out → Standing
  as_it_stands link = standing link.source link.sink

  -- the bytes of these links
  abbrev pub told : List (Link In Out) → List (List ℕ)
  told links = map (λ link. bytes_of (as_it_stands link)) links

  -- the first of them is given as it is told
  pub accepts-first : (link : Link In Out) (all rest : List (Link In Out)) (given_back : List Standing) (room : ℕ)
      → all ≡ link ∷ rest → All (λ l. IsUnused (as_it_stands l)) all
      → Accepts standing (record { left = told all; given_back = given_back; room = room })
      (Some (record { left = told rest; given_back = given_back; room = room })) (Accepted.Link link.source link.sink)
  accepts-first link all rest given_back room e holds =
      (bytes_of (as_it_stands link), told rest, ap told e, All-first (λ l. IsUnused (as_it_stands l)) link all rest e holds, refl)
