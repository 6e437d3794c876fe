use Rattle.std.proofs.Common.{ℕ, refl, ap}
use Rattle.office_io.specs.declared.status.ExitStatus.{ExitStatus}
use Rattle.batch_command.specs.Below.clerk_desk.declared.opening.DeskFault.{DeskFault}
use Rattle.program_answers.specs.Opening.{bad_book}
use Rattle.program_answers.proofs.Serving.{by_fault, keeps_itself, says_still}
use Rattle.program_answers.proofs.opening.tell_unopened.Goals as goal

pub returns-in-BadBook : goal.returns-in-BadBook
returns-in-BadBook g c = λ left source keeper keeper_now.
    by_fault left (g.W.Sink.held c.args.sink.now) (g.W.Sink.held c.tell_bad_book.new.sink) source (g.W.Sink.faults c.args.sink.now) (g.W.Sink.faults c.tell_bad_book.new.sink)
    keeper keeper_now c.tell_bad_book.result c.args.fault (DeskFault.BadBook c.in-BadBook.found) c.in-BadBook.is (λ blames.
    says_still (bad_book c.in-BadBook.found) left (g.W.Sink.held c.args.sink.now) (g.W.Sink.held c.tell_bad_book.new.sink) source (g.W.Sink.faults c.args.sink.now)
    (g.W.Sink.faults c.tell_bad_book.new.sink) keeper keeper_now c.tell_bad_book.result blames (c.tell_bad_book.ensures left source keeper))

pub returns-in-StoreFault : goal.returns-in-StoreFault
returns-in-StoreFault g c = λ left source keeper keeper_now.
    by_fault left (g.W.Sink.held c.args.sink.now) (g.W.Sink.held c.args.sink.now) source (g.W.Sink.faults c.args.sink.now) (g.W.Sink.faults c.args.sink.now)
    keeper keeper_now ExitStatus.StoreFault c.args.fault DeskFault.StoreFault c.in-StoreFault.is (λ blames. (refl, keeps_itself (g.W.Sink.held c.args.sink.now), blames, refl))

pub returns-in-NoMemory : goal.returns-in-NoMemory
returns-in-NoMemory g c = λ left source keeper keeper_now.
    by_fault left (g.W.Sink.held c.args.sink.now) (g.W.Sink.held c.args.sink.now) source (g.W.Sink.faults c.args.sink.now) (g.W.Sink.faults c.args.sink.now)
    keeper keeper_now ExitStatus.NoMemory c.args.fault DeskFault.NoMemory c.in-NoMemory.is (λ blames. (
      refl,
      record {
        held = keeps_itself (g.W.Sink.held c.args.sink.now);
        counts = ap (λ (n : ℕ). record { source = source; sink = g.W.Sink.faults c.args.sink.now; keeper = n }) blames;
      },
    ))
