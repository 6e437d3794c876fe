-- What is told and left at the end of a run that opened a book.
use Rattle.std.proofs.Common.{◌≡◌, Option, Some}
use Rattle.book_rows.specs.Book.{Book}
use Rattle.keeper_core.specs.Keeping.{Keeps, LeavesTold}
use Rattle.batch_command.specs.Below.clerk_desk.{OpenBook.TellsOn, Serving.Outlives}
use Rattle.program_answers.specs.Keeping.{StillTells}

-- what was told before the opening is told on after what was done then
pub opened_tells : {mid_well well : Type 0} (holds holds_mid holds_now : Book → Type 0) (now : Book) → (mid_well → Keeps holds_mid holds) → TellsOn mid_well well holds_mid holds_now now → StillTells holds well holds_now
opened_tells holds holds_mid holds_now now opened done well book told =
    let on = done well in (now, on.1 book (opened on.0 book told))

pub unopened_tells : {well : Type 0} (holds holds_now : Book → Type 0) → (well → Keeps holds_now holds) → StillTells holds well holds_now
unopened_tells holds holds_now opened well book told = (book, opened well book told)

-- the opening writes nothing that a crash could leave
module _ (holds holds_mid : Book → Type 0) (leaves leaves_mid : Option Book → Type 0) {tells tells_mid : Type 0}
    (kept : Keeps holds holds_mid) (told : tells_mid → tells) (crash : tells_mid → Keeps leaves leaves_mid) where
  opened_sound : (tells → LeavesTold holds leaves) → tells_mid → LeavesTold holds_mid leaves_mid
  opened_sound sound telling book h after l = sound (told telling) book (kept book h) after (crash telling after l)

  pub outlives_opened : (Is : Book → Option Book → Type 0) (holds_now : Book → Type 0) (leaves_now : Option Book → Type 0) {tells_now : Type 0}
      → Outlives Is holds_mid leaves_mid tells_mid holds_now leaves_now tells_now → Outlives Is holds leaves tells holds_now leaves_now tells_now
  outlives_opened Is holds_now leaves_now done sound = done (opened_sound sound)

  pub outlives_alone : (Is : Book → Option Book → Type 0) → ((book : Book) (after : Option Book) → after ≡ Some book → Is book after) → Outlives Is holds leaves tells holds_mid leaves_mid tells_mid
  outlives_alone Is same sound telling now h after l = same now after (opened_sound sound telling now h after l)
