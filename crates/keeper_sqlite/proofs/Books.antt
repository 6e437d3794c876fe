-- The rows of a table before a batch, and the book that a file tells.
use Rattle.std.proofs.Common.{◌≡◌, inl, inr, ℕ, suc, true, not, List, [], ◌∷◌, ◌++◌, length, map, option_map, find, Option, Some, None, refl, sym, ap, subst, ◌∙◌, arith, Less, IsPermutation}
use Rattle.std.specs.List.{AllByRecursion, AllZip}
use Rattle.std.specs.Option.{option_or}
use Rattle.std.specs.Cmp.{IsTotalOrder}
use Rattle.std.specs.Cmp.Derive.{point_total}
use Rattle.std.proofs.lemmas.Cmp.{on_total, then_total}
use Rattle.std.proofs.lemmas.List.{map-append}
use Rattle.std.proofs.lemmas.List.Sorted.{length_permutation, IsPermutation-trans, IsPermutation-append_left}
use Rattle.sqlite.specs.Tree.{Trees, IsAscending}
use Rattle.sqlite.specs.Schema.{Schema}
use Rattle.sqlite.specs.{Effect.Database, Effect.IsDatabase}
use Rattle.sqlite_value.specs.Order.{Row, column}
use Rattle.sqlite_value.proofs.OrderLemmas.{value_cmp_total}
use Rattle.sqlite_keyed.proofs.ListLemmas.{ascending-map, ascending-append, ascending_from_map, all_map, all_unmap, all-append}
use Rattle.book_rows.specs.Book.{Book}
use Rattle.book_rows.specs.declared.rows.Table.TheVariants.{Acts, Records, Lines}
use Rattle.store_sql.specs.Tables.{Table, cells, fits, order}
use Rattle.store_sql.specs.Columns.{acts, records, lines}
use Rattle.store_sql.specs.Schema.{no_schema, book_schema, HasTables}
use Rattle.store_sql.proofs.Meanings.{others_in, as_others}
use Rattle.store_sql.specs.Trees.{StandsFor, by_key, Rises}
use Rattle.store_sql.proofs.Standing.{one_act, one_record, one_line}
use Rattle.store_decode.specs.Read.{first_bad, unfit_in, unfit_row}
use Rattle.keeper_sqlite.specs.Told.{HoldsRows, IsBookIn}
use Rattle.keeper_sqlite.proofs.Landing.{fit_each, none_bad, table_before, table_after}

-- ---- the order of the keys

-- a table whose rows are listed by these places
abbrev listed_by : List ℕ → Table (Unit {0})
listed_by places = record { name = []; tree = 0; key = None; columns = []; unique = places; row_of = λ _. tt }

by_places_total : (places : List ℕ) → IsTotalOrder (by_key (listed_by places))
by_places_total [] = point_total
by_places_total (place ∷ places) = then_total (on_total (λ (r : Row). column r place) value_cmp_total) (by_places_total places)

module _ {X Y : Type 0} (t : Table X) (only : (a b : X) → cells t a ≡ cells t b → a ≡ b) (name : Row → Y) where
  abbrev Up : List X → Type 0
  Up xs = IsAscending (λ a b. by_key t (cells t a) (cells t b) ≡ Less) xs

  abbrev Fits : List Row → Type 0
  Fits rows = option_map name (find (λ row. not (fits t row)) rows) ≡ None

  total : IsTotalOrder (λ (a b : X). by_key t (cells t a) (cells t b))
  total = on_total (cells t) (by_places_total (order t))

  -- what a table stood for before these rows came to it
  pub record Was (old : List Row) (bs xs : List X) : Type 0 where
    pub us : List X
    pub are : IsPermutation (map (cells t) us) old
    pub rise : Rises (by_key t) (map (cells t) us)
    pub fit : Fits (map (cells t) us)
    pub up : Up us
    pub together : IsPermutation (us ++ bs) xs

  up_of : (xs : List X) → Rises (by_key t) (map (cells t) xs) → Up xs
  up_of xs rise = ascending_from_map (λ a b. by_key t a b ≡ Less) (cells t) xs rise

  pub was : (old new : List Row) (bs xs : List X) → IsPermutation (old ++ map (cells t) bs) new → IsPermutation (map (cells t) xs) new → Rises (by_key t) (map (cells t) xs) → Fits (map (cells t) xs) → Was old bs xs
  was old new bs xs adds stands rise none =
      let all = all_unmap (λ row. fits t row ≡ true) (cells t) xs (fit_each (fits t) name (map (cells t) xs) none) in
      let it = table_before (cells t) only (λ a b. by_key t (cells t a) (cells t b)) total (λ x. fits t (cells t x)) old new bs xs adds stands (up_of xs rise) all in
      record {
        us = it.us;
        are = it.are;
        rise = ascending-map (λ a b. by_key t a b ≡ Less) (cells t) it.us it.rise;
        fit = none_bad (fits t) name (map (cells t) it.us) (all_map (λ row. fits t row ≡ true) (cells t) it.us it.all);
        up = it.rise;
        together = it.together;
      }

  -- those that came stand after them
  pub came : (us bs xs : List X) → IsPermutation (us ++ bs) xs → Up us → Up bs → AllByRecursion (λ a. AllByRecursion (λ b. by_key t (cells t a) (cells t b) ≡ Less) bs) us → Rises (by_key t) (map (cells t) xs) → xs ≡ us ++ bs
  came us bs xs together up_us up_bs across rise =
      table_after (cells t) only (λ a b. by_key t (cells t a) (cells t b)) total (λ x. fits t (cells t x)) us bs xs together up_us up_bs across (up_of xs rise)

  alone : (us bs xs : List X) → IsPermutation (map (cells t) us) [] → IsPermutation (us ++ bs) xs → IsPermutation bs xs
  alone [] bs xs none together = together
  alone (u ∷ us) bs xs none together = let e : 0 ≡ suc (length (map (cells t) us)) = length_permutation _ _ none in absurd (omega (arith, e))

  -- a table stands for one list of rows
  pub stands_once : (rows : List Row) (xs ys : List X) → IsPermutation (map (cells t) xs) rows → IsPermutation (map (cells t) ys) rows → Rises (by_key t) (map (cells t) xs) → Rises (by_key t) (map (cells t) ys) → Fits (map (cells t) xs) → xs ≡ ys
  stands_once rows xs ys xs_are ys_are xs_rise ys_rise none =
      let it = was [] rows ys xs ys_are xs_are xs_rise none in
      came [] ys xs (alone it.us ys xs it.are it.together) tt (up_of ys ys_rise) tt xs_rise

  -- a table stands for the rows that it stood for and those that came to it, where these come after them
  pub stands_after : (old new : List Row) (us bs : List X) → IsPermutation (map (cells t) us) old → IsPermutation (old ++ map (cells t) bs) new → IsPermutation (map (cells t) (us ++ bs)) new
  stands_after old new us bs are adds =
      subst (λ l. IsPermutation l new) (sym (map-append (cells t) us bs)) (IsPermutation-trans _ _ _ (IsPermutation-append_left (map (cells t) bs) (map (cells t) us) old are) adds)

  pub rise_after : (us bs : List X) → Rises (by_key t) (map (cells t) us) → Up bs → AllByRecursion (λ a. AllByRecursion (λ b. by_key t (cells t a) (cells t b) ≡ Less) bs) us → Rises (by_key t) (map (cells t) (us ++ bs))
  rise_after us bs rise up across =
      ascending-map (λ a b. by_key t a b ≡ Less) (cells t) (us ++ bs) (ascending-append (λ a b. by_key t (cells t a) (cells t b) ≡ Less) us bs (up_of us rise) up across)

  pub fit_after : (us bs : List X) → Fits (map (cells t) us) → AllByRecursion (λ row. fits t row ≡ true) (map (cells t) bs) → Fits (map (cells t) (us ++ bs))
  fit_after us bs none fit =
      none_bad (fits t) name (map (cells t) (us ++ bs))
      (subst (AllByRecursion (λ row. fits t row ≡ true)) (sym (map-append (cells t) us bs)) (all-append (λ row. fits t row ≡ true) (map (cells t) us) (map (cells t) bs) (fit_each (fits t) name (map (cells t) us) none) fit))

-- no row is bad where none of each table is, and the other way round
or_none : {X : Type 0} (a b : Option X) → option_or a b ≡ None → (a ≡ None) × (b ≡ None)
or_none None b h = (refl, h)
or_none (Some x) b h = absurd (cc)

pub record NoneBad (act_rows record_rows line_rows : List Row) : Type 0 where
  pub acts_fit : unfit_in acts Acts act_rows ≡ None
  pub records_fit : unfit_in records Records record_rows ≡ None
  pub lines_fit : unfit_in lines Lines line_rows ≡ None

none_bad_in : (act_rows record_rows line_rows : List Row) → first_bad act_rows record_rows line_rows ≡ None → NoneBad act_rows record_rows line_rows
none_bad_in act_rows record_rows line_rows h =
    let one = or_none _ _ h in
    let two = or_none _ _ one.1 in
    record { acts_fit = one.0; records_fit = two.0; lines_fit = two.1 }

none_first : (act_rows record_rows line_rows : List Row) → NoneBad act_rows record_rows line_rows → first_bad act_rows record_rows line_rows ≡ None
none_first act_rows record_rows line_rows h = rw (h.acts_fit, h.records_fit, h.lines_fit) refl

-- of the rows of a book
abbrev pub FitsAll : Book → Type 0
FitsAll book = NoneBad (map (cells acts) book.acts) (map (cells records) book.records) (map (cells lines) book.lines)

pub fits_of : (book : Book) → first_bad (map (cells acts) book.acts) (map (cells records) book.records) (map (cells lines) book.lines) ≡ None → FitsAll book
fits_of book = none_bad_in (map (cells acts) book.acts) (map (cells records) book.records) (map (cells lines) book.lines)

pub fits_to : (book : Book) → FitsAll book → first_bad (map (cells acts) book.acts) (map (cells records) book.records) (map (cells lines) book.lines) ≡ None
fits_to book = none_first (map (cells acts) book.acts) (map (cells records) book.records) (map (cells lines) book.lines)

-- the three tables alone
pub made_has : (schema : Schema) → schema ≡ book_schema → HasTables schema
made_has schema is = subst HasTables (sym is) (record { tables = refl; later = refl; indexes = refl; on_later = refl })

-- a book's file is not empty
pub schemas_differ : (schema : Schema) → HasTables schema → schema ≡ no_schema → ⊥
schemas_differ schema has none =
    let same : suc (suc (suc (length (others_in has).tables))) ≡ 0 = ap (λ (s : Schema). length s.tables) (sym (as_others has) ∙ none) in omega (arith, same)

zips : {X Y : Type 0} (R : X → Y → Type 0) (xs : List X) (y : Y) (ys : List Y) → AllZip R xs (y ∷ ys) → AllZip R xs [] → ⊥
zips R [] y ys some none = some
zips R (x ∷ xs) y ys some none = none

-- no trees are sound both as a book's file and as an empty one
pub exclusive : (schema : Schema) (trees : Trees) → HasTables schema → IsDatabase (record { schema = schema; trees = trees }) → IsDatabase (record { schema = no_schema; trees = trees }) → ⊥
exclusive schema trees has book none =
    zips _ _ _ _ (subst (λ s. IsDatabase (record { schema = s; trees = trees })) (as_others has) book).lists.listed.tables none.lists.listed.tables

pub rows_once : (a b : Database) (x y : Book) → a.trees ≡ b.trees → HoldsRows a x → HoldsRows b y → x ≡ y
rows_once a b x y same p q =
    let fit = fits_of x p.fits in
    let other = subst (λ t. StandsFor t (map (cells acts) y.acts) (map (cells records) y.records) (map (cells lines) y.lines)) (sym same) q.stands in
    let acts_are = stands_once acts one_act (unfit_row acts Acts) _ x.acts y.acts p.stands.acts.are other.acts.are p.stands.acts.rise other.acts.rise fit.acts_fit in
    let records_are = stands_once records one_record (unfit_row records Records) _ x.records y.records p.stands.records.are other.records.are p.stands.records.rise other.records.rise fit.records_fit in
    let lines_are = stands_once lines one_line (unfit_row lines Lines) _ x.lines y.lines p.stands.lines.are other.lines.are p.stands.lines.rise other.lines.rise fit.lines_fit in
    λ i. record { acts = acts_are i; records = records_are i; lines = lines_are i }

-- the same trees, sound in both, are of one book
pub book_once : (a b : Database) (x y : Book) → a.trees ≡ b.trees → IsDatabase a → IsDatabase b → IsBookIn a x → IsBookIn b y → x ≡ y
book_once a b x y same a_live b_live (inl p) (inl q) = rows_once a b x y same p q
book_once a b x y same a_live b_live (inl p) (inr q) =
    absurd (exclusive a.schema a.trees p.schema a_live (subst IsDatabase (λ i. record { schema = q.0 i; trees = sym same i }) b_live))
book_once a b x y same a_live b_live (inr p) (inl q) =
    absurd (exclusive b.schema b.trees q.schema b_live (subst IsDatabase (λ i. record { schema = p.0 i; trees = same i }) a_live))
book_once a b x y same a_live b_live (inr p) (inr q) = p.1 ∙ sym q.1
