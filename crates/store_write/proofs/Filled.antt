-- How the INSERTs of a batch come together.
use Rattle.std.proofs.lemmas.List.{map-append, take_more}
use Rattle.voucher_core.specs.declared.line.Line.{Line}
use Rattle.record_history.specs.declared.records.Record.{Record}
use Rattle.book_rows.specs.declared.rows.ActRow.{ActRow}
use Rattle.std.proofs.Common.{◌+◌, ◌<◌, get_or, take, length, ap, ◌≡◌, ℕ, List, [], ◌∷◌, ◌++◌, Result, Ok, Err, Bool, true, false, IsTrue, refl, sym, subst, ◌∙◌, append_assoc, append-nil, IsPermutation}
use Rattle.std.specs.List.{AllByRecursion}
use Rattle.std.proofs.lemmas.List.Sorted.{IsPermutation-refl, IsPermutation-trans, IsPermutation-append_left}
use Rattle.sqlite.specs.Order.{Row}
use Rattle.sqlite.specs.Tree.{Trees}
use Rattle.sqlite.specs.State.{State, Executes, ExecutesInside}
use Rattle.store_sql.specs.Tables.{cells, fits, insert_text}
use Rattle.store_sql.specs.Columns.{acts, records, lines}
use Rattle.store_sql.specs.Schema.{no_schema, HasTables}
use Rattle.store_sql.specs.Trees.{Adds}
use Rattle.store_sql.proofs.Meanings.{insert_act_lacks}
use Rattle.store_sql.proofs.Inserts.{puts_act, puts_record, puts_line}
use Rattle.store_sql.proofs.Changes.{keeps_schema, means_something}
use Rattle.store_write.specs.Effects.{Inserts, Fills, line_part}

pub inserts : (sql : List ℕ) (params : Row) (old new : State) (count : ℕ) → count ≡ 1 → ExecutesInside 0 sql params old new (Ok count) → Inserts sql params old new
inserts sql params old new count one h =
    let ran = subst (λ n. Executes sql params old new (Ok n)) one h.0 in
    let kept = keeps_schema sql params old new ran in
    record { ran = ran; inside = h.1.mode; schema = kept.0; live = kept.1 }

more : (a b x y z : List Row) → IsPermutation (x ++ a) y → IsPermutation (y ++ b) z → IsPermutation (x ++ (a ++ b)) z
more a b x y z one two = subst (λ l. IsPermutation l z) (append_assoc x a b) (IsPermutation-trans _ _ _ (IsPermutation-append_left b (x ++ a) y one) two)

pub adds_then : (a b c d e f : List Row) (o m n : Trees) → Adds a b c o m → Adds d e f m n → Adds (a ++ d) (b ++ e) (c ++ f) o n
adds_then a b c d e f o m n one two = record {
  acts_are = more a d _ _ _ one.acts_are two.acts_are;
  records_are = more b e _ _ _ one.records_are two.records_are;
  lines_are = more c f _ _ _ one.lines_are two.lines_are;
}

same : (xs : List Row) → IsPermutation (xs ++ []) xs
same xs = subst (λ l. IsPermutation l xs) (sym (append-nil xs)) (IsPermutation-refl xs)

none_added : (trees : Trees) → Adds [] [] [] trees trees
none_added trees = record { acts_are = same _; records_are = same _; lines_are = same _ }

pub fills_then : (a b c d e f : List Row) (o m n : State) → Fills a b c o m → Fills d e f m n → Fills (a ++ d) (b ++ e) (c ++ f) o n
fills_then a b c d e f o m n one two = record {
  inside = λ h. two.inside (one.inside h);
  schema = two.schema ∙ one.schema;
  live = λ h. two.live (one.live h);
  rows = λ has. adds_then a b c d e f _ _ _ (one.rows has) (two.rows (subst HasTables (sym one.schema) has));
}

module _ (old new : State) where
  fills : (sql : List ℕ) (params : Row) (a b c : List Row) → Inserts sql params old new → (HasTables old.now.schema → Adds a b c old.now.trees new.now.trees) → Fills a b c old new
  fills sql params a b c h rows = record { inside = λ _. h.inside; schema = h.schema; live = λ _. h.live; rows = rows }

  pub fills_act : (a : ActRow) → Inserts (insert_text acts) (cells acts a) old new → Fills (cells acts a ∷ []) [] [] old new
  fills_act a h = fills _ _ _ _ _ h (λ has. puts_act old new a 1 has h.ran)

  pub fills_record : (r : Record) → Inserts (insert_text records) (cells records r) old new → Fills [] (cells records r ∷ []) [] old new
  fills_record r h = fills _ _ _ _ _ h (λ has. puts_record old new r 1 has h.ran)

  pub fills_line : (l : Line) → Inserts (insert_text lines) (cells lines l) old new → Fills [] [] (cells lines l ∷ []) old new
  fills_line l h = fills _ _ _ _ _ h (λ has. puts_line old new l 1 has h.ran)

  pub known_act : (params : Row) → Inserts (insert_text acts) params old new → old.now.schema ≡ no_schema → ⊥
  known_act params h = means_something (insert_text acts) params old new no_schema 1 _ insert_act_lacks h.ran

pub batch_fills : (act : Row) (made lines : List Row) (a b c d : State) → Fills (act ∷ []) [] [] a b → Fills [] made [] b c → Fills [] [] lines c d → Fills (act ∷ []) made lines a d
batch_fills act made lines a b c d one two three =
    let later : Fills [] made lines b d = subst (λ l. Fills [] l lines b d) (append-nil made) (fills_then [] made [] [] [] lines b c d two three) in
    fills_then (act ∷ []) [] [] [] made lines a b d one later

pub none_filled : (s : State) → Fills [] [] [] s s
none_filled s = record { inside = λ h. h; schema = refl; live = λ h. h; rows = λ _. none_added s.now.trees }

-- a statement that was run was run in a transaction
pub is_inside : {A E R : Type 0} {r : Result A E} {a : A} {e : E} (b : Bool) → (b ≡ false → (r ≡ Err e) × R) → r ≡ Ok a → IsTrue b
is_inside true ended went = refl
is_inside false ended went = let stopped = (ended refl).0 in absurd (cc)

-- the lines so far, and one more
lines_so : (made : List Line) (i : ℕ) (line : Line) → line ≡ get_or made i line → i < length made → line_part (take (i + 1) made) ≡ line_part (take i made) ++ cells lines line ∷ []
lines_so made i line is within =
    ap line_part (take_more made i line within ∙ ap (λ x. take i made ++ x ∷ []) (sym is)) ∙ map-append (cells lines) (take i made) (line ∷ [])

pub lines_more : (a b c : State) (made : List Line) (i : ℕ) (line : Line) → line ≡ get_or made i line → i < length made → Fills [] [] (line_part (take i made)) a b → Fills [] [] (cells lines line ∷ []) b c
    → Fills [] [] (line_part (take (i + 1) made)) a c
lines_more a b c made i line is within one two =
    subst (λ l. Fills [] [] l a c) (sym (lines_so made i line is within)) (fills_then [] [] (line_part (take i made)) [] [] (cells lines line ∷ []) a b c one two)

pub fit_more : (made : List Line) (i : ℕ) (line : Line) → line ≡ get_or made i line → i < length made → AllByRecursion (λ row. fits lines row ≡ true) (line_part (take i made)) → fits lines (cells lines line) ≡ true
    → AllByRecursion (λ row. fits lines row ≡ true) (line_part (take (i + 1) made))
fit_more made i line is within before fit =
    subst (AllByRecursion (λ row. fits lines row ≡ true)) (sym (lines_so made i line is within)) (all_push (λ row. fits lines row ≡ true) (line_part (take i made)) (cells lines line) before fit)
  where
    all_push : (P : Row → Type 0) (rows : List Row) (row : Row) → AllByRecursion P rows → P row → AllByRecursion P (rows ++ row ∷ [])
    all_push P [] row before here = (here, tt)
    all_push P (r ∷ rows) row before here = (before.0, all_push P rows row before.1 here)
