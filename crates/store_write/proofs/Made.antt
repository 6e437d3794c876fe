-- The three tables of an empty file are made one after another.
use Rattle.std.proofs.Common.{◌≡◌, map, refl, ap, ◌∙◌}
use Rattle.sqlite.specs.State.{State}
use Rattle.store_sql.specs.Tables.{schema_table, create_text}
use Rattle.store_sql.specs.Columns.{acts, records, lines}
use Rattle.store_sql.specs.Schema.{no_schema, acts_schema, records_schema}
use Rattle.store_sql.proofs.Meanings.{acts_made, records_made, lines_made}
use Rattle.store_sql.specs.Trees.{shown}
use Rattle.store_sql.proofs.Creates.{makes}
use Rattle.store_write.specs.Effects.{Ran, IsMade}

pub all_made : (a b c d : State) → Ran (create_text acts) a b → Ran (create_text records) b c → Ran (create_text lines) c d → a.now.schema ≡ no_schema → IsMade d.now
all_made a b c d first second third none =
    let one = makes (create_text acts) no_schema (schema_table acts) acts_made.is acts_made.text acts_made.plain acts_made.defined refl a b first.0 none first.1 in
    let two = makes (create_text records) acts_schema (schema_table records) records_made.is records_made.text records_made.plain records_made.defined refl b c second.0 one.schema_is second.1 in
    let three = makes (create_text lines) records_schema (schema_table lines) lines_made.is lines_made.text lines_made.plain lines_made.defined refl c d third.0 two.schema_is third.1 in
    record {
      schema = three.schema_is;
      live = three.live;
      none = record { acts = ap (map (shown acts)) (three.others.0 ∙ two.others.0 ∙ one.empty); records = ap (map (shown records)) (three.others.1.0 ∙ two.empty); lines = ap (map (shown lines)) three.empty };
    }
