-- The records under a header, by what the reader came to.
use Rattle.std.proofs.Common.{◌≡◌, ◌∙◌, ◌∷◌, ◌+◌, ◌<◌, ℕ, zero, suc, pred, length, arith, cond, true, false, refl, sym, ap, List, [], Some, None, Option}
use Rattle.csv.specs.declared.parser.State.{State}
use Rattle.csv.specs.declared.parser.State.TheVariants as st
use Rattle.csv.specs.Machine.{Read, next_record}
use Rattle.csv.specs.declared.reader.Reader.{Reader}
use Rattle.csv.proofs.ReadFacts.{rows-more}
use Rattle.csv.specs.Reading.{ReadRecord, Reached, default_config, source_of, records_from, records_next, strip_bom}
use Rattle.csv_records.specs.Records.{are_fields, records_under, under}
use Rattle.csv_records.proofs.OneList.{all_records}

-- all were read
pub read_all : (header : List (List ℕ)) (text : List ℕ) (names : List (List ℕ)) (rows : List (List (List ℕ))) (s : State) (rest : List ℕ)
    → are_fields names header ≡ true → Reached default_config st.StartRecord (strip_bom text) (names ∷ rows) s rest → next_record default_config s [] [] rest ≡ None
    → records_under header text ≡ Some rows
read_all header text names rows s rest same reached none =
    ap (under header) (all_records default_config (strip_bom text) (names ∷ rows) (s, rest, reached, none)) ∙ ap (λ b. cond b (Some rows) None) same

-- there is no first record
none_reached : (text : List ℕ) → Reached default_config st.StartRecord text [] st.StartRecord text
unfolding Reached
none_reached text = (refl, refl)

pub read_none : (header : List (List ℕ)) (text : List ℕ) → next_record default_config st.StartRecord [] [] (strip_bom text) ≡ None → records_under header text ≡ None
read_none header text none =
    ap (under header) (all_records default_config (strip_bom text) [] (st.StartRecord, strip_bom text, none_reached (strip_bom text), none))

-- the first is another
others_than : (turns : ℕ) (s : State) (text : List ℕ) (p : Read) → 0 < turns → next_record default_config s [] [] text ≡ Some p
    → records_from default_config turns s text ≡ p.0 ∷ records_from default_config (pred turns) p.1 p.2
unfolding records_from
others_than zero s text p above first = absurd (omega arith)
others_than (suc turns) s text p above first = ap (records_next (records_from default_config turns)) first

pub read_other : (header : List (List ℕ)) (text : List ℕ) (names : List (List ℕ)) (s : State) (rest : List ℕ)
    → Reached default_config st.StartRecord (strip_bom text) (names ∷ []) s rest → are_fields names header ≡ false → records_under header text ≡ None
unfolding Reached
read_other header text names s rest (p, first, is, after) other =
    let turns = length (strip_bom text) + 1 in
    ap (under header) (others_than turns st.StartRecord (strip_bom text) p (omega arith) first)
    ∙ ap (λ b. cond b (Some (records_from default_config (pred turns) p.1 p.2)) None) (ap (λ f. are_fields f header) (sym is) ∙ other)

-- the header, read from the start of a text
pub header_read : {R : Type 0} (rem : R → Option (List ℕ)) (a m : Reader R) (names : List (List ℕ)) (text : List ℕ)
    → a.config ≡ default_config → source_of rem a ≡ Some text → a.state ≡ st.StartRecord → ReadRecord rem a m true names
    → (rest : List ℕ) × (source_of rem m ≡ Some rest) × Reached default_config st.StartRecord text (names ∷ []) m.state rest
unfolding Reached
header_read rem a m names text config source start r = rows-more rem a m names default_config st.StartRecord text text [] config source (sym start, refl) r
