-- What is answered to one input more.
use Rattle.std.proofs.Common.{◌≡◌, ℕ, List, [], ◌∷◌, ◌++◌, refl, sym, ap, subst, ◌∙◌}
use Rattle.std.specs.{Prelude.Option, Io.KnownBytes.Appends}
use Rattle.std.proofs.KnownBytes.{Appends-trans}
use Rattle.std.proofs.lemmas.List.Sums.{fold-append}
use Rattle.office_io.specs.Transfer.{AppendsPart}
use Rattle.book_rows.specs.Book.{Book}
use Rattle.batch_command.specs.{Output.Told, Output.one_more, Output.output, Answers.WritesPart}

module _ {X : Type 0} (told : Book → X → Told) where
  output-more : (book : Book) (given : List X) (g : X) → output told book (given ++ g ∷ []) ≡ one_more told (output told book given) g
  output-more book given g = fold-append (one_more told) (record { text = []; book = book }) given (g ∷ [])

  -- the book after it
  pub book-more : (old mid new : Book) (given : List X) (g : X) → mid ≡ (output told old given).book
      → new ≡ (told mid g).book → new ≡ (output told old (given ++ g ∷ [])).book
  book-more old mid new given g is next =
      next ∙ ap (λ (b : Book). (told b g).book) is ∙ ap (λ (t : Told). t.book) (sym (output-more old given g))

  text-more : (old mid : Book) (given : List X) (g : X) → mid ≡ (output told old given).book
      → (output told old given).text ++ (told mid g).text ≡ (output told old (given ++ g ∷ [])).text
  text-more old mid given g is =
      ap (λ (b : Book). (output told old given).text ++ (told b g).text) is ∙ ap (λ (t : Told). t.text) (sym (output-more old given g))

  -- what was written with it
  pub written-more : (old mid : Book) (held held_mid held_now : Option (List ℕ)) (given : List X) (g : X)
      → mid ≡ (output told old given).book → Appends held held_mid (output told old given).text
      → Appends held_mid held_now (told mid g).text → Appends held held_now (output told old (given ++ g ∷ [])).text
  written-more old mid held held_mid held_now given g is first next =
      subst (Appends held held_now) (text-more old mid given g is) (Appends-trans held held_mid held_now _ _ first next)

  -- its answer was written in part
  pub part_written : (old mid : Book) (held held_mid held_now : Option (List ℕ)) (given : List X) (g : X) → mid ≡ (output told old given).book
      → Appends held held_mid (output told old given).text → AppendsPart held_mid held_now (told mid g).text
      → WritesPart told old (given ++ g ∷ []) held held_now
  part_written old mid held held_mid held_now given g is written part =
      let moved : AppendsPart held_mid held_now (told (output told old given).book g).text =
      subst (λ (b : Book). AppendsPart held_mid held_now (told b g).text) is part in record {
        before = given;
        last = g;
        ends = refl;
        count = moved.0;
        part = moved.1;
        written = Appends-trans held held_mid held_now _ _ written moved.2;
      }
