-- The reply to an act that was accepted, by the rows of the book.
use Rattle.std.specs.Prelude.{ℕ, ◌==◌, nat_le, List, length, filter, find}
use Rattle.std.specs.Option.{option_map_or}
use Rattle.payment_rules.specs.Payment.{tenant_rent_of, reimbursement_of}
use Rattle.record_history.specs.declared.records.Record.{Record}
use Rattle.voucher_core.specs.{declared.line.Line.Line, Lines.total}
use Rattle.book_rows.specs.{declared.rows.ActRow.ActRow, declared.command.Command.Command, Book.Book}
use Rattle.command_forms.specs.Commands.{command_in}
use Rattle.office_step.specs.declared.reply.{Done.Done, Made.Made}
use Rattle.office_step.specs.Acts.{Act, acts_of, units_of, applications_of}

-- the acts up to that one
abbrev pub acts_up_to : Book → ℕ → List Act
acts_up_to book n = filter (λ act. nat_le act.n n) (acts_of book.acts)

-- what was certified, with tenant rent and reimbursement by what its assistance leaves of its rents
abbrev pub certified : Record → Made
certified r = Made.Certified r.assistance r.household r.number (reimbursement_of r.assistance r.rents) (tenant_rent_of r.assistance r.rents) r.ttp

-- the total of a closing's lines, and how many they are
abbrev pub closed : List Line → ℕ → Made
closed lines month = Made.Closed (total lines) (length lines) month

-- the record that the act made, as a reply
abbrev pub certified_by : Book → ℕ → Made
certified_by book n = option_map_or certified (find (λ r. r.act == n) book.records) Made.Nothing

-- what an act of that number and command made
abbrev pub made_by : Book → ℕ → Command → Made
made_by book n (Command.Unit unit) = Made.Unit (length (units_of (acts_up_to book n)))
made_by book n (Command.Apply apply) = Made.Applicant (length (applications_of (acts_up_to book n)))
made_by book n (Command.Close close) = closed (filter (λ line. line.act == n) book.lines) close.month
made_by book n asked = certified_by book n

-- the reply to the act
abbrev pub done_of : Book → ActRow → Done
done_of book row = record { act = row.n; day = row.day; made = option_map_or (made_by book row.n) (command_in row.body) Made.Nothing }
