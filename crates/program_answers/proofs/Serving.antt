-- The book that was opened is the one that the keeper told.
use Rattle.std.proofs.Common.{◌≡◌, ℕ, inr, None, Some, List, refl, sym, subst}
use Rattle.std.specs.{Prelude.Option, Io.KnownBytes.Keeps as KeepsBytes}
use Rattle.office_io.specs.declared.status.ExitStatus.{ExitStatus}
use Rattle.book_rows.specs.Book.{Book}
use Rattle.keeper_core.specs.Keeping.{BadRow, Keeps}
use Rattle.batch_command.specs.Below.office_step.{declared.call.Capacity.Capacity, Step.IsReached, Valid.first_fault}
use Rattle.batch_command.specs.Below.office_laws.Upheld.{IsUpheld}
use Rattle.batch_command.specs.Below.clerk_desk.{declared.opening.DeskFault.DeskFault, Opening.BlamesKeeper, Opening.TellsOnly, OpenBook.ToldBefore}
use Rattle.program_answers.specs.Answer.{Answer}
use Rattle.program_answers.specs.Opening.{ComesOfBook, Door, Says, Serves, TellsFault, door, largest}

-- what the keeper tells at the end it told of the book that was opened
told_of_start : (start : Book) (holds holds_mid holds_now : Book → Type 0) (bad_mid : BadRow → Type 0) → TellsOnly start holds_mid bad_mid → Keeps holds holds_mid
    → ToldBefore holds_mid holds_now → (book : Book) → holds_now book → holds start
told_of_start start holds holds_mid holds_now bad_mid only kept before book told =
    let was = before book told in subst holds (only.holds_only was.0 was.1) (kept was.0 was.1)

pub served : (Works : Book → Book → Door → Door → ExitStatus → Type 0) (holds holds_mid holds_now : Book → Type 0) (bad_mid bad_now : BadRow → Type 0)
    (left held : Option (List ℕ)) (source sink keeper keeper_mid : ℕ) (now : Door) (capacity_now : Capacity) (start after : Book) (status : ExitStatus)
    → first_fault largest start ≡ None → capacity_now ≡ largest → IsReached capacity_now after → IsUpheld capacity_now after
    → TellsOnly start holds_mid bad_mid → Keeps holds holds_mid → keeper_mid ≡ keeper
    → ((book : Book) → holds_now book → book ≡ after) → ToldBefore holds_mid holds_now → Keeps bad_mid bad_now
    → Works start after (door left held source sink keeper_mid) now status
    → Serves Works holds holds_now bad_now (door left held source sink keeper) now status
served Works holds holds_mid holds_now bad_mid bad_now left held source sink keeper keeper_mid now capacity_now start after status
    valid same reached upheld only kept quiet then_kept before before_row works = record {
      start = start;
      after = after;
      valid = valid;
      reached = subst (λ (k : Capacity). IsReached k after) same reached;
      upheld = subst (λ (k : Capacity). IsUpheld k after) same upheld;
      kept = λ book told. (then_kept book told, told_of_start start holds holds_mid holds_now bad_mid only kept before book told);
      no_bad_row = λ row told. only.no_bad_row row (before_row row told);
      works = subst (λ (n : ℕ). Works start after (door left held source sink n) now status) quiet works;
    }

pub keeps_itself : (known : Option (List ℕ)) → KeepsBytes known known
keeps_itself None = tt
keeps_itself (Some bytes) = refl

pub says_still : (answer : Answer) (left held held_now : Option (List ℕ)) (source sink sink_now keeper keeper_now : ℕ) (status : ExitStatus) → keeper_now ≡ keeper
    → Says answer (door left held source sink keeper) (door left held_now source sink_now keeper) status
    → Says answer (door left held source sink keeper) (door left held_now source sink_now keeper_now) status
says_still answer left held held_now source sink sink_now keeper keeper_now status still says =
    subst (λ (n : ℕ). Says answer (door left held source sink keeper) (door left held_now source sink_now n) status) (sym still) says

-- what is told of a fault, by what the fault is
pub by_fault : (left held held_now : Option (List ℕ)) (source sink sink_now keeper keeper_now : ℕ) (status : ExitStatus) (fault named : DeskFault) → fault ≡ named
    → (BlamesKeeper keeper keeper_now named → TellsFault (door left held source sink keeper) (door left held_now source sink_now keeper_now) named status)
    → BlamesKeeper keeper keeper_now fault → TellsFault (door left held source sink keeper) (door left held_now source sink_now keeper_now) fault status
by_fault left held held_now source sink sink_now keeper keeper_now status fault named is tells =
    subst (λ (f : DeskFault). BlamesKeeper keeper keeper_now f → TellsFault (door left held source sink keeper) (door left held_now source sink_now keeper_now) f status) (sym is) tells

-- where memory runs out before the book is asked for
pub untouched : (Works : Book → Book → Door → Door → ExitStatus → Type 0) (holds : Book → Type 0) (bad : BadRow → Type 0) (old : Door) → ComesOfBook Works holds holds bad old old ExitStatus.NoMemory
untouched Works holds bad old = inr (record {
  why = DeskFault.NoMemory;
  is_why = tt;
  kept = λ book told. told;
  unread = refl;
  unfaulted = refl;
  told = (refl, record { held = keeps_itself old.held; counts = refl });
})
