-- Reports: what a report of a book is, and what asking for one does.
use Rattle.std.specs.Prelude.{◌≡◌, ℕ, List}
use Rattle.office_io.specs.declared.status.ExitStatus.{ExitStatus}
use Rattle.book_rows.specs.Book.{Book}
use Rattle.forms_text.specs.Form.{voucher_text}
use Rattle.line_records.specs.Export.{lines_text}
use Rattle.office_reports.specs.Reports.{due_text, targets_text}
use Rattle.program_answers.specs.Opening.{Door, Says}
use Rattle.office_prog.specs.declared.report.Report.{Report}

-- the text of a report is a function of the book
abbrev pub report_text : Report → Book → List ℕ
report_text (Report.Voucher month) book = voucher_text book month
report_text Report.Export book = lines_text book.lines
report_text (Report.Due day) book = due_text book day
report_text (Report.Targets day) book = targets_text book day

-- The report was written of the book that was opened, which stays. Nothing was read, and neither source nor keeper counted a
-- fault.
pub record Reported (report : Report) (start after : Book) (old new : Door) (status : ExitStatus) : Type 0 where
  pub same : after ≡ start
  pub told : Says (record { status = ExitStatus.Done; text = report_text report start }) old new status
  pub unread : new.left ≡ old.left
  pub source : new.counts.source ≡ old.counts.source
  pub keeper : new.counts.keeper ≡ old.counts.keeper
