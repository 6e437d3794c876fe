-- What went well at the end went well at each step.
use Rattle.std.proofs.Common.{◌<◌, ℕ, pos, arith, int_cmp, Ordering, Less, Equal, Greater, ◌≡◌, ◌⊎◌, inl, inr, Bool, true, false, cond, Some, None, Ok, Err, Result, refl, ap₂, List, [], ◌∷◌, map}
use Rattle.std.specs.Prelude.{◌<ℤ◌}
use Rattle.std.specs.Ordering.{MatchOrdering}
use Rattle.std.proofs.lemmas.Int.{ints}
use Rattle.std.proofs.lemmas.Cmp.{int_ranked}
use Rattle.sqlite.specs.declared.types.Value.{Value}
use Rattle.sqlite.specs.declared.types.Value.TheVariants.{Null, Int}
use Rattle.sqlite.specs.Kind.TheVariants.{Integer}
use Rattle.sqlite.specs.Cast.{cast, cast_all}
use Rattle.sqlite.specs.Ops.{unary}
use Rattle.store_sql.specs.Cells.{maybe_day_cell}
use Rattle.store_sql.specs.Tables.{Content, Column, number, day, month, kind, flag, amount, words, maybe_day, schema_column, cell, cells_of}

-- a part that gave a value did not stop on the way
pub went : {B E R : Type 0} {b : B} {Stops : E → Type 0} → ((stop : E) × Stops stop × (Ok b ≡ Err stop)) ⊎ R → R
went (inl stopped) = absurd (let e = stopped.2 in cc)
went (inr on) = on

pub same_value : {B E : Type 0} {a b : B} → ◌≡◌ {A = Result B E} (Ok a) (Ok b) → a ≡ b
same_value e = cc

either : (b : Bool) (x : Value) → cond b x x ≡ x
either true x = refl
either false x = refl

-- a whole number stays one, and so does NULL
pub cast_null : cast Integer Null ≡ Null
unfolding unary
cast_null = either _ Null

pub cast_int : (n : _) → cast Integer (Int n) ≡ Int n
unfolding unary
cast_int n = either _ (Int n)

-- a smaller number comes first
pub less : (m n : ℕ) → m < n → int_cmp (pos m) (pos n) ≡ Less
less m n low = go (int_cmp (pos m) (pos n)) (int_ranked (pos m) (pos n) (int_cmp (pos m) (pos n)) refl)
  where
    go : (r : Ordering) → MatchOrdering r (pos m <ℤ pos n) (pos m ≡ pos n) (pos n <ℤ pos m) → r ≡ Less
    go Less h = refl
    go Equal h = absurd (omega (arith, ints, h, low))
    go Greater h = absurd (omega (arith, ints, h, low))

cast_maybe_day : (n : _) → cast Integer (maybe_day_cell n) ≡ maybe_day_cell n
cast_maybe_day None = cast_null
cast_maybe_day (Some n) = cast_int _

cast_cell : {A : Type 0} (name : List ℕ) (c : Content A) (a : A) → cast (schema_column (name, c)).kind (cell c a) ≡ cell c a
cast_cell name (number of) a = cast_int _
cast_cell name (day of) a = cast_int _
cast_cell name (month of) a = cast_int _
cast_cell name (kind of) a = cast_int _
cast_cell name (flag of) a = cast_int _
cast_cell name (amount of) a = cast_int _
cast_cell name (words of) a = refl
cast_cell name (maybe_day of) a = cast_maybe_day _

-- the cells of a row are of the types of their columns
pub cast_cells : {A : Type 0} (columns : List (Column A)) (a : A) → cast_all (map schema_column columns) (cells_of columns a) ≡ cells_of columns a
cast_cells [] a = refl
cast_cells ((name, c) ∷ columns) a = ap₂ (λ v row. v ∷ row) (cast_cell name c a) (cast_cells columns a)
