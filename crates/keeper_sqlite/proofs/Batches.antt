-- A book that a file tells once a batch has come: the book before, with the batch.
use Rattle.std.proofs.Common.{◌≡◌, inl, ℕ, suc, ◌+◌, ◌<◌, ◌≤◌, pos, true, false, not, List, [], ◌∷◌, ◌++◌, length, get_or, option_map, option_to_list, find, Option, Some, None, IfSome, IsPermutation, refl, sym, ap, ap₂, subst, subst₂, ◌∙◌, arith, Ordering, Less, Equal, Greater}
use Rattle.std.specs.Prelude.{◌<ℤ◌, ⊤}
use Rattle.std.specs.Option.{option_or}
use Rattle.std.specs.List.{AllByRecursion}
use Rattle.std.specs.Ordering.{int_cmp, ordering_then, MatchOrdering}
use Rattle.std.proofs.lemmas.Int.{ints}
use Rattle.std.proofs.lemmas.Cmp.{int_ranked}
use Rattle.std.proofs.lemmas.List.Elements.{recursion_from_All}
use Rattle.std.proofs.lemmas.List.Sorted.{IsPermutation-trans, IsPermutation-sym}
use Rattle.sqlite.specs.Tree.{IsAscending}
use Rattle.sqlite.specs.{Effect.Database}
use Rattle.sqlite.specs.declared.types.Value.TheVariants.{Int}
use Rattle.sqlite_value.specs.Order.{Row, value_cmp}
use Rattle.sqlite_value.proofs.OrderLemmas.{value_cmp-Int}
use Rattle.sqlite_keyed.proofs.ListLemmas.{all_weaker}
use Rattle.record_history.specs.declared.records.Record.{Record}
use Rattle.voucher_core.specs.declared.line.Line.{Line}
use Rattle.book_rows.specs.declared.rows.{Batch.Batch}
use Rattle.book_rows.specs.declared.rows.Table.TheVariants.{Acts, Records, Lines}
use Rattle.book_rows.specs.Book.{Book, IsBatch, IsBefore, appended}
use Rattle.keeper_core.specs.Keeping.{BadRow}
use Rattle.store_sql.specs.Tables.{Table, cells, fits}
use Rattle.store_sql.specs.Columns.{acts, records, lines}
use Rattle.store_sql.specs.Schema.{HasTables}
use Rattle.store_sql.specs.Trees.{Adds, Rises, by_key}
use Rattle.store_sql.proofs.Parts.{less}
use Rattle.store_sql.proofs.Selects.{all_same}
use Rattle.store_sql.proofs.Standing.{one_act, one_record, one_line}
use Rattle.store_write.specs.Effects.{act_part, made_part, line_part, AllFit}
use Rattle.store_decode.specs.Read.{unfit_row}
use Rattle.keeper_sqlite.specs.Told.{HoldsRows, IsBookIn, IsBadIn}
use Rattle.keeper_sqlite.proofs.Back.{before}
use Rattle.keeper_sqlite.proofs.Books.{was, came, stands_after, rise_after, fit_after, fits_of, fits_to}

equal : (n : ℕ) → int_cmp (pos n) (pos n) ≡ Equal
equal n = go (int_cmp (pos n) (pos n)) (int_ranked (pos n) (pos n) (int_cmp (pos n) (pos n)) refl)
  where
    go : (r : Ordering) → MatchOrdering r (pos n <ℤ pos n) (pos n ≡ pos n) (pos n <ℤ pos n) → r ≡ Equal
    go Less h = absurd (omega (arith, ints, h))
    go Equal h = refl
    go Greater h = absurd (omega (arith, ints, h))

module _ {X : Type 0} (R : X → X → Type 0) (P Q : X → Type 0) (apart : (a b : X) → P a → Q b → R a b) where
  across : (us bs : List X) → AllByRecursion P us → AllByRecursion Q bs → AllByRecursion (λ a. AllByRecursion (R a) bs) us
  across us bs earlier now = all_weaker P _ (λ a p. all_weaker Q (R a) (λ b q. apart a b p q) bs now) us earlier

abbrev Places : ℕ → List Line → Type 0
Places base ls = (k : ℕ) (d : Line) → k < length ls → (get_or ls k d).place ≡ base + k + 1

places_on : (base : ℕ) (l : Line) (ls : List Line) → Places base (l ∷ ls) → Places (base + 1) ls
places_on base l ls h k d low = let e : (get_or ls k d).place ≡ base + suc k + 1 = h (suc k) d (omega (arith, low)) in omega (arith, e)

abbrev Follows : Line → Line → Type 0
Follows a b = by_key lines (cells lines a) (cells lines b) ≡ Less

follows : (a b : Line) → a.act ≡ b.act → a.place < b.place → Follows a b
follows a b same low =
    let e : value_cmp (Int (pos a.act)) (Int (pos b.act)) ≡ Equal = value_cmp-Int _ _ ∙ subst (λ n. int_cmp (pos a.act) (pos n) ≡ Equal) same (equal a.act) in
    let p : value_cmp (Int (pos a.place)) (Int (pos b.place)) ≡ Less = value_cmp-Int _ _ ∙ less a.place b.place low in
    ap₂ (λ o q. ordering_then o (ordering_then q Equal)) e p

follow_all : (n : ℕ) (a : Line) (base : ℕ) (ls : List Line) → a.act ≡ n → a.place ≤ base → AllByRecursion (λ l. l.act ≡ n) ls → Places base ls → AllByRecursion (Follows a) ls
follow_all n a base [] of low acts places = tt
follow_all n a base (l ∷ ls) of low acts places =
    let here : l.place ≡ base + 0 + 1 = places 0 l (omega arith) in
    (follows a l (of ∙ sym acts.0) (omega (arith, here, low)), follow_all n a (base + 1) ls of (omega (arith, low)) acts.1 (places_on base l ls places))

lines_up : (n base : ℕ) (ls : List Line) → AllByRecursion (λ l. l.act ≡ n) ls → Places base ls → IsAscending Follows ls
lines_up n base [] acts places = tt
lines_up n base (l ∷ ls) acts places =
    let here : l.place ≡ base + 0 + 1 = places 0 l (omega arith) in
    (follow_all n l (base + 1) ls acts.0 (omega (arith, here)) acts.1 (places_on base l ls places), lines_up n (base + 1) ls acts.1 (places_on base l ls places))

made_up : (made : Option Record) → IsAscending (λ a b. by_key records (cells records a) (cells records b) ≡ Less) (option_to_list made)
made_up None = tt
made_up (Some r) = (tt, tt)

made_of : (n : ℕ) (made : Option Record) → IfSome made (λ r. r.act ≡ n) → AllByRecursion (λ r. r.act ≡ n) (option_to_list made)
made_of n None h = tt
made_of n (Some r) h = (h, tt)

below : (m k n : ℕ) (more : Ordering) → m < n → k ≡ n → ordering_then (value_cmp (Int (pos m)) (Int (pos k))) more ≡ Less
below m k n more low is = ap (λ o. ordering_then o more) (value_cmp-Int (pos m) (pos k) ∙ less m k (omega (arith, low, is)))

module _ (old new : Database) (batch : Batch) (adds : Adds (act_part batch.act) (made_part batch.made) (line_part batch.lines) old.trees new.trees) (has : HasTables old.schema) (it : IsBatch batch) where
  pub rows_before : (book : Book) → HoldsRows new book → ((earlier : Book) → IsBookIn old earlier → IsBefore earlier batch.act.n) → (earlier : Book) × (IsBookIn old earlier × (book ≡ appended earlier batch))
  rows_before book told next =
      let fit = fits_of book told.fits in
      let n = batch.act.n in
      let act_rows = was acts one_act (unfit_row acts Acts) _ _ (batch.act ∷ []) book.acts adds.acts_are told.stands.acts.are told.stands.acts.rise fit.acts_fit in
      let record_rows = was records one_record (unfit_row records Records) _ _ (option_to_list batch.made) book.records adds.records_are told.stands.records.are told.stands.records.rise fit.records_fit in
      let line_rows = was lines one_line (unfit_row lines Lines) _ _ batch.lines book.lines adds.lines_are told.stands.lines.are told.stands.lines.rise fit.lines_fit in
      let earlier : Book = record { acts = act_rows.us; records = record_rows.us; lines = line_rows.us } in
      let held : IsBookIn old earlier = inl (record {
        schema = has;
        stands = record { acts = record { are = act_rows.are; rise = act_rows.rise }; records = record { are = record_rows.are; rise = record_rows.rise }; lines = record { are = line_rows.are; rise = line_rows.rise } };
        fits = fits_to earlier (record { acts_fit = act_rows.fit; records_fit = record_rows.fit; lines_fit = line_rows.fit });
      }) in
      let low = next earlier held in
      let acts_are = came acts one_act (unfit_row acts Acts) act_rows.us (batch.act ∷ []) book.acts act_rows.together act_rows.up (tt, tt)
      (across (λ a b. by_key acts (cells acts a) (cells acts b) ≡ Less) (λ a. a.n < n) (λ b. b.n ≡ n) (λ a b p q. below a.n b.n n Equal p q) act_rows.us (batch.act ∷ []) (recursion_from_All _ act_rows.us low.acts) (refl, tt)) told.stands.acts.rise in
      let records_are = came records one_record (unfit_row records Records) record_rows.us (option_to_list batch.made) book.records record_rows.together record_rows.up (made_up batch.made)
      (across (λ a b. by_key records (cells records a) (cells records b) ≡ Less) (λ a. a.act < n) (λ b. b.act ≡ n) (λ a b p q. below a.act b.act n Equal p q) record_rows.us (option_to_list batch.made) (recursion_from_All _ record_rows.us low.records) (made_of n batch.made it.made)) told.stands.records.rise in
      let own = recursion_from_All _ batch.lines it.lines in
      let lines_are = came lines one_line (unfit_row lines Lines) line_rows.us batch.lines book.lines line_rows.together line_rows.up (lines_up n 0 batch.lines own (λ k d within. let e : (get_or batch.lines k d).place ≡ k + 1 = it.places k d within in omega (arith, e)))
      (across Follows (λ a. a.act < n) (λ b. b.act ≡ n) (λ a b p q. below a.act b.act n (ordering_then (value_cmp (Int (pos a.place)) (Int (pos b.place))) Equal) p q) line_rows.us batch.lines (recursion_from_All _ line_rows.us low.lines) own) told.stands.lines.rise in
      (earlier, (held, (λ i. record { acts = acts_are i; records = records_are i; lines = lines_are i })))

-- ---- the book that was told, with the batch

module _ (old new : Database) (batch : Batch) (adds : Adds (act_part batch.act) (made_part batch.made) (line_part batch.lines) old.trees new.trees) (has : HasTables new.schema) (it : IsBatch batch) (fit : AllFit batch) where
  pub book_after : (book : Book) → HoldsRows old book → IsBefore book batch.act.n → HoldsRows new (appended book batch)
  book_after book told low =
      let n = batch.act.n in
      let was_fit = fits_of book told.fits in
      let own = recursion_from_All _ batch.lines it.lines in
      let acts_rise = rise_after acts one_act (unfit_row acts Acts) book.acts (batch.act ∷ []) told.stands.acts.rise (tt, tt)
      (across (λ a b. by_key acts (cells acts a) (cells acts b) ≡ Less) (λ a. a.n < n) (λ b. b.n ≡ n) (λ a b p q. below a.n b.n n Equal p q) book.acts (batch.act ∷ []) (recursion_from_All _ book.acts low.acts) (refl, tt)) in
      let records_rise = rise_after records one_record (unfit_row records Records) book.records (option_to_list batch.made) told.stands.records.rise (made_up batch.made)
      (across (λ a b. by_key records (cells records a) (cells records b) ≡ Less) (λ a. a.act < n) (λ b. b.act ≡ n) (λ a b p q. below a.act b.act n Equal p q) book.records (option_to_list batch.made) (recursion_from_All _ book.records low.records) (made_of n batch.made it.made)) in
      let lines_rise = rise_after lines one_line (unfit_row lines Lines) book.lines batch.lines told.stands.lines.rise (lines_up n 0 batch.lines own (λ k d within. let e : (get_or batch.lines k d).place ≡ k + 1 = it.places k d within in omega (arith, e)))
      (across Follows (λ a. a.act < n) (λ b. b.act ≡ n) (λ a b p q. below a.act b.act n (ordering_then (value_cmp (Int (pos a.place)) (Int (pos b.place))) Equal) p q) book.lines batch.lines (recursion_from_All _ book.lines low.lines) own) in
      record {
        schema = has;
        stands = record {
          acts = record { are = stands_after acts one_act (unfit_row acts Acts) _ _ book.acts (batch.act ∷ []) told.stands.acts.are adds.acts_are; rise = acts_rise };
          records = record { are = stands_after records one_record (unfit_row records Records) _ _ book.records (option_to_list batch.made) told.stands.records.are adds.records_are; rise = records_rise };
          lines = record { are = stands_after lines one_line (unfit_row lines Lines) _ _ book.lines batch.lines told.stands.lines.are adds.lines_are; rise = lines_rise };
        };
        fits = fits_to (appended book batch) (record {
          acts_fit = fit_after acts one_act (unfit_row acts Acts) book.acts (batch.act ∷ []) was_fit.acts_fit fit.act;
          records_fit = fit_after records one_record (unfit_row records Records) book.records (option_to_list batch.made) was_fit.records_fit fit.made;
          lines_fit = fit_after lines one_line (unfit_row lines Lines) book.lines batch.lines was_fit.lines_fit fit.lines;
        });
      }

-- ---- a bad row

anything : {X : Type 0} (xs : List X) → AllByRecursion (λ _. ⊤) xs
anything [] = tt
anything (x ∷ xs) = (tt, anything xs)

module _ {A Y : Type 0} (t : Table A) (name : Row → Y) where
  -- the rows of a table before rows came to it that fit it: the first bad row is the same
  pub record WasBad (old rows : List Row) : Type 0 where
    pub us : List Row
    pub are : IsPermutation us old
    pub rise : Rises (by_key t) us
    pub same : option_map name (find (λ row. not (fits t row)) us) ≡ option_map name (find (λ row. not (fits t row)) rows)

  pub was_bad : (old new came rows : List Row) → IsPermutation (old ++ came) new → IsPermutation rows new → Rises (by_key t) rows → AllByRecursion (λ row. fits t row ≡ true) came → WasBad old rows
  was_bad old new came rows adds stands rise fit =
      let both = subst₂ (λ a b. IsPermutation (old ++ a) b) (sym (all_same came)) (sym (all_same rows)) (IsPermutation-trans _ _ _ adds (IsPermutation-sym _ _ stands)) in
      let it = before (λ (row : Row). row) (λ a b e. e) (λ a b. by_key t a b ≡ Less) (λ _. ⊤) old came rows both rise (anything rows) in
      record {
        us = it.us;
        are = subst (λ l. IsPermutation l old) (all_same it.us) it.are;
        rise = it.rise;
        same = ap (option_map name) (it.finds (λ row. not (fits t row)) (all_weaker (λ row. fits t row ≡ true) (λ row. not (fits t row) ≡ false) (λ row e. ap not e) came fit));
      }

pub bad_before : (old new : Database) (batch : Batch) → Adds (act_part batch.act) (made_part batch.made) (line_part batch.lines) old.trees new.trees → HasTables old.schema → AllFit batch → (row : BadRow) → IsBadIn new row → IsBadIn old row
bad_before old new batch adds has fit row bad =
    let one = was_bad acts (unfit_row acts Acts) _ _ (act_part batch.act) bad.act_rows adds.acts_are bad.stands.acts.are bad.stands.acts.rise fit.act in
    let two = was_bad records (unfit_row records Records) _ _ (made_part batch.made) bad.record_rows adds.records_are bad.stands.records.are bad.stands.records.rise fit.made in
    let three = was_bad lines (unfit_row lines Lines) _ _ (line_part batch.lines) bad.line_rows adds.lines_are bad.stands.lines.are bad.stands.lines.rise fit.lines in
    record {
      schema = has;
      act_rows = one.us;
      record_rows = two.us;
      line_rows = three.us;
      stands = record { acts = record { are = one.are; rise = one.rise }; records = record { are = two.are; rise = two.rise }; lines = record { are = three.are; rise = three.rise } };
      is = (λ i. option_or (one.same i) (option_or (two.same i) (three.same i))) ∙ bad.is;
    }
