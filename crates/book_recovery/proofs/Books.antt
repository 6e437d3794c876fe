-- Books are told apart row by row.
use Rattle.std.proofs.Common.{ap}
use Rattle.std.specs.Coded.{Coded-set, coded_list}
use Rattle.book_rows.specs.Book.{Book}
use Rattle.book_rows.specs.contracts.rows.ActRow as act
use Rattle.record_history.specs.contracts.records.Record as made
use Rattle.voucher_core.specs.contracts.line.Line as line

pub Book-set : IsSet Book
Book-set a b p q = λ i j. record {
  acts = Coded-set (coded_list act.the_row.coded) a.acts b.acts (ap (λ (k : Book). k.acts) p) (ap (λ (k : Book). k.acts) q) i j;
  records = Coded-set (coded_list made.the_row.coded) a.records b.records (ap (λ (k : Book). k.records) p) (ap (λ (k : Book). k.records) q) i j;
  lines = Coded-set (coded_list line.the_row.coded) a.lines b.lines (ap (λ (k : Book). k.lines) p) (ap (λ (k : Book). k.lines) q) i j;
}
