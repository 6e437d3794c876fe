-- One act more that is answered.
use Rattle.std.proofs.Common.{◌≡◌, ◌∙◌, ◌++◌, ◌∷◌, ◌+◌, ◌<◌, [], ℕ, List, length, get_or, take, map, sym, ap, subst}
use Rattle.std.specs.List.{enumerate_from}
use Rattle.std.proofs.lemmas.List.{map-append}
use Rattle.book_rows.specs.Book.{Book}
use Rattle.generator.specs.declared.act.MadeAct.{MadeAct}
use Rattle.generator.proofs.Numbered.{numbered_to}
use Rattle.batch_command.specs.{Below.office_step.declared.call.Capacity.Capacity, Output.Given, Output.told_of, Output.batch_output}
use Rattle.batch_command.proofs.More.{book-more}
use Rattle.simulation.specs.Trial.{given_acts, given_of}

given_more : (acts : List MadeAct) (i : ℕ) (act : MadeAct) → i < length acts → act ≡ get_or acts i act
    → given_acts (take (i + 1) acts) ≡ given_acts (take i acts) ++ given_of (i + 1, act) ∷ []
given_more acts i act inside is =
    ap (map given_of) (numbered_to acts i act inside is) ∙ map-append given_of (enumerate_from 1 (take i acts)) ((i + 1, act) ∷ [])

pub answered_more : (capacity capacity_mid : Capacity) (old mid new : Book) (acts : List MadeAct) (i : ℕ) (act : MadeAct)
    → i < length acts → act ≡ get_or acts i act → capacity_mid ≡ capacity → mid ≡ (batch_output capacity old (given_acts (take i acts))).book
    → new ≡ (told_of capacity_mid mid (given_of (i + 1, act))).book → new ≡ (batch_output capacity old (given_acts (take (i + 1) acts))).book
answered_more capacity capacity_mid old mid new acts i act inside is same before next =
    subst (λ (given : List Given). new ≡ (batch_output capacity old given).book) (sym (given_more acts i act inside is))
    (book-more (told_of capacity) old mid new (given_acts (take i acts)) (given_of (i + 1, act)) before
    (subst (λ (k : Capacity). new ≡ (told_of k mid (given_of (i + 1, act))).book) same next))
