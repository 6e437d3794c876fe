-- The three texts write nothing, whatever the schema is under which they are read.
use Rattle.std.proofs.Common.{◌≡◌, ℕ, List, Bool, true, false, Option, None, Ok, Err, Result, refl, sym, ap, subst, ◌∙◌, if◌then◌else◌}
use Rattle.sqlite_schema.specs.declared.schema.Schema.{Schema}
use Rattle.sqlite_schema.specs.declared.command.Command.{Command}
use Rattle.sqlite_schema.specs.declared.command.Returning.{Returning}
use Rattle.sqlite_syntax.specs.declared.statement.Parsed.{Parsed}
use Rattle.sqlite_resolve.specs.declared.compiled.Compiled.{Compiled}
use Rattle.sqlite_resolve.specs.declared.error.CompileError.{CompileError}
use Rattle.sqlite_resolve.specs.declared.error.CompileError.TheVariants.{NoSuchTable}
use Rattle.sqlite_resolve.specs.Lowering.{Checked, and_then}
use Rattle.sqlite_resolve.specs.Compile.{first, returning, command, meaning, planned, compiled, with_command}
use Rattle.sqlite.specs.Listing.{listing_schema, is_select, if_select, reads_listing, understood}
use Rattle.sqlite_tied.specs.Compute.{everything}
use Rattle.sqlite.specs.{Outline.Outline, Steps.Outlines}
use Rattle.store_sql.specs.Schema.{no_schema}
use Rattle.store_sql.proofs.Meanings.{select_acts_lacks}
use Rattle.store_read.specs.Asking.{OnlyReads}
use Rattle.store_sql.specs.Tables.{select_text}
use Rattle.store_sql.specs.Columns.{acts, records, lines}

-- whatever it says of tables, it has no RETURNING
abbrev ReturnsNothing : Checked Parsed → Type 0
ReturnsNothing (Ok p) = (schema : Schema) (base : ℕ) → returning schema base p.statement ≡ Ok None
ReturnsNothing (Err e) = Unit {0}

through : {A B : Type 0} (r : Checked A) (f : A → Checked B) (b : B) → and_then r f ≡ Ok b → (a : A) × (r ≡ Ok a) × (f a ≡ Ok b)
through (Ok a) f b h = (a, refl, h)
through (Err e) f b h = absurd (cc)

meaning_plain : (schema : Schema) (p : Parsed) (base : ℕ) (found : Command × Option Returning) → returning schema base p.statement ≡ Ok None → meaning schema p base ≡ Ok found → found.1 ≡ None
unfolding meaning
meaning_plain schema p base found none h =
    let one = through (returning schema base p.statement) _ found h in
    let two = through (command schema p.formats base p.statement) _ found one.2 in
    let shown : one.0 ≡ None = (let both = sym one.1 ∙ none in cc) in
    let same : (two.0, one.0) ≡ found = (let e = two.2 in cc) in
    ap (λ (f : Command × Option Returning). f.1) (sym same) ∙ shown

planned_plain : (schema : Schema) (p : Parsed) (plan : List (List ℕ) × (Command × Option Returning)) → ((s : Schema) (base : ℕ) → returning s base p.statement ≡ Ok None) → planned schema p ≡ Ok plan → plan.1.1 ≡ None
unfolding planned
planned_plain schema p plan none h =
    let one = through (meaning schema p _) _ plan h in
    let same : (plan.0, one.0) ≡ plan = (let e = one.2 in cc) in
    ap (λ (f : List (List ℕ) × (Command × Option Returning)). f.1.1) (sym same) ∙ meaning_plain schema p _ one.0 (none schema _) one.1

compiled_plain : (schema : Schema) (text : List ℕ) → ReturnsNothing (first text) → (c : Compiled) → compiled schema text ≡ Ok c → c.returning ≡ None
unfolding compiled
compiled_plain schema text reads c h =
    let one = through (first text) _ c h in
    let two = through (planned schema one.0) _ c one.2 in
    let same : with_command one.0 two.0 ≡ c = (let e = two.2 in cc) in
    ap (λ (x : Compiled). x.returning) (sym same) ∙ planned_plain schema one.0 two.0 (subst ReturnsNothing one.1 reads) two.1

abbrev Found : Type 0
Found = Result Compiled CompileError

chosen : (d c : Compiled) (b : Bool) → ◌≡◌ {A = Found} (if b then Ok d else Err NoSuchTable) (Ok c) → ◌≡◌ {A = Found} (Ok d) (Ok c)
chosen d c true e = e
chosen d c false e = absurd (cc)

selected : (r : Found) (c : Compiled) → if_select r ≡ Ok c → r ≡ Ok c
selected (Ok d) c h = chosen d c (is_select d.command) h
selected (Err e) c h = absurd (cc)

either : (b : Bool) (r s : Found) (c : Compiled) → (if b then r else s) ≡ Ok c → (r ≡ Ok c → c.returning ≡ None) → (s ≡ Ok c → c.returning ≡ None) → c.returning ≡ None
either true r s c e f g = f e
either false r s c e f g = g e

understood_plain : (text : List ℕ) → ReturnsNothing (first text) → OnlyReads text
unfolding understood
understood_plain text reads schema c h =
    either (reads_listing schema text) (if_select (compiled listing_schema text)) (compiled schema text) c h
    (λ e. compiled_plain listing_schema text reads c (selected _ c e)) (compiled_plain schema text reads c)

acts_return : ReturnsNothing (first (select_text acts))
unfolding everything
acts_return = λ schema base. refl

records_return : ReturnsNothing (first (select_text records))
unfolding everything
records_return = λ schema base. refl

lines_return : ReturnsNothing (first (select_text lines))
unfolding everything
lines_return = λ schema base. refl

pub acts_only_read : OnlyReads (select_text acts)
acts_only_read = understood_plain (select_text acts) acts_return

pub records_only_read : OnlyReads (select_text records)
records_only_read = understood_plain (select_text records) records_return

pub lines_only_read : OnlyReads (select_text lines)
lines_only_read = understood_plain (select_text lines) lines_return

-- an empty file has no acts to prepare a query on
pub lacks : (schema : Schema) (sql : List ℕ) (o : Outline) → sql ≡ select_text acts → schema ≡ no_schema → Outlines (understood schema sql) o → ⊥
lacks schema sql o is none shaped = rw (none, select_acts_lacks) at (subst (λ s. Outlines (understood schema s) o) is shaped)
