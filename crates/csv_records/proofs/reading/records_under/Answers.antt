use Rattle.std.proofs.Common.{Bor, List, ℕ, ◌≡◌, ◌∙◌, ◌∷◌, [], sym, rules, inl, inr, true, map, Some}
use Rattle.std.specs.Result.{is_ok}
use Rattle.std.proofs.lemmas.List.{map-append}
use Rattle.csv.specs.Reading.{default_config, strip_bom}
use Rattle.csv.specs.Records.{fields_of}
use Rattle.csv.specs.declared.parser.State.TheVariants as st
use Rattle.csv.proofs.ReadFacts.{rows-end, rows-more}
use Rattle.csv_records.proofs.Fields.{shown}
use Rattle.csv_records.proofs.Heading.{header_read, read_all, read_none, read_other}
use Rattle.csv_records.proofs.reading.records_under.Goals as goal

pub returns-in-None-clause-header : goal.returns-in-None-clause-header
returns-in-None-clause-header c _ =
    let b = c.records_of-records.ensures in
    let read = rw c.in-None.is at ((c.next.ensures.steps b.left b.untrimmed).0 (inr (inr (b.unnamed, b.headers)))) in
    read_none (shown c.args.header.now) c.args.text.now
    (rw b.state at (rows-end (λ (s : Bor (List ℕ)). Some s.now) c.records_of-records.result.rdr c.next.new.self.rdr [] default_config (strip_bom c.args.text.now) b.config b.source read))

pub returns-then-not-has_fields-clause-header : goal.returns-then-not-has_fields-clause-header
returns-then-not-has_fields-clause-header c _ =
    let b = c.records_of-records.ensures in
    let read = rw (c.in-Some-Ok.is, c.in-Some-Ok.field-0-is) at ((c.next.ensures.steps b.left b.untrimmed).0 (inr (inr (b.unnamed, b.headers)))) in
    let names = fields_of c.in-Some-Ok.first in
    let come = header_read (λ (s : Bor (List ℕ)). Some s.now) c.records_of-records.result.rdr c.next.new.self.rdr names (strip_bom c.args.text.now) b.config b.source b.state read.0 in
    read_other (shown c.args.header.now) c.args.text.now names c.next.new.self.rdr.state come.0 come.2 (sym c.has_fields.ensures ∙ c.if-not-has_fields.true)

pub loop-record-init : goal.loop-record-init
loop-record-init c =
    let b = c.records_of-records.ensures in
    let steps = c.next.ensures.steps b.left b.untrimmed in
    let read = rw (c.in-Some-Ok.is, c.in-Some-Ok.field-0-is) at (steps.0 (inr (inr (b.unnamed, b.headers)))) in
    let flexible = rw (c.in-Some-Ok.is, c.in-Some-Ok.field-0-is) at steps.3 in
    let names = fields_of c.in-Some-Ok.first in
    let come = header_read (λ (s : Bor (List ℕ)). Some s.now) c.records_of-records.result.rdr c.next.new.self.rdr names (strip_bom c.args.text.now) b.config b.source b.state read.0 in
    rw (c.into_iter-record-iterator.ensures.into_iter_gives, c.new-rows.ensures.items) (record {
      untrimmed = read.0.3 ∙ b.untrimmed;
      ready = inl read.1;
      left = read.2;
      config = read.0.2 ∙ b.config;
      flexible = flexible ∙ b.flexible;
      come_to = (come.0, come.1, names, sym c.has_fields.ensures ∙ c.if-not-has_fields.false, come.2);
    })

pub loop-record-preserved : goal.loop-record-preserved
loop-record-preserved c =
    let inv = c.loop-record.invariant in
    let steps = c.next-in-loop-record.ensures.steps inv.left inv.untrimmed in
    let read = rw (c.in-Some.is, c.in-Ok.is) at (steps.0 inv.ready) in
    let flexible = rw (c.in-Some.is, c.in-Ok.is) at steps.3 in
    let good : is_ok c.push.result ≡ true = search rules in
    let items = rw good at c.push.ensures.items in
    let (y, source, names, same, reached) = inv.come_to in
    let come = rows-more (λ (s : Bor (List ℕ)). Some s.now) c.loop-record.record-iterator.rdr c.next-in-loop-record.new.self.rdr (fields_of c.in-Ok.row) default_config st.StartRecord
    (strip_bom c.args.text.now) y (names ∷ map fields_of c.loop-record.rows.items) inv.config source reached read.0 in
    record {
      untrimmed = read.0.3 ∙ inv.untrimmed;
      ready = inl read.1;
      left = read.2;
      config = read.0.2 ∙ inv.config;
      flexible = flexible ∙ inv.flexible;
      come_to = (come.0, come.1, names, same, rw (items, map-append fields_of c.loop-record.rows.items (c.in-Ok.row ∷ [])) come.2);
    }

pub returns-clause-records : goal.returns-clause-records
returns-clause-records c =
    let inv = c.loop-record.invariant in
    let read = rw c.in-None-record.is at ((c.next-in-loop-record.ensures.steps inv.left inv.untrimmed).0 inv.ready) in
    let (y, source, names, same, reached) = inv.come_to in
    read_all (shown c.args.header.now) c.args.text.now names (map fields_of c.loop-record.rows.items) c.loop-record.record-iterator.rdr.state y same reached
    (rows-end (λ (s : Bor (List ℕ)). Some s.now) c.loop-record.record-iterator.rdr c.next-in-loop-record.new.self.rdr [] default_config y inv.config source read)
