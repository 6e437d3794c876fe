-- What each status of a server says by itself.
use Rattle.std.proofs.Common.{◌≡◌, ◌∙◌, ◌⊎◌, inl, inr, ℕ, ◌+◌, ◌<◌, List, [], ◌++◌, length, map, sym, ap, arith}
use Rattle.std.specs.{Prelude.Option, Prelude.Some, Prelude.None, Prelude.IfSome, Io.KnownBytes.Appends}
use Rattle.std.proofs.lemmas.List.{length-append, length-map, nil_from_length}
use Rattle.office_io.specs.declared.status.ExitStatus.{ExitStatus}
use Rattle.office_io.specs.{Outside.Faulted, Status.number_of}
use Rattle.office_links.specs.Links.{Links, Fits, unused}
use Rattle.http_front.specs.Below.clerk_desk.{declared.opening.DeskFault.DeskFault, Opening.IsUnopened}
use Rattle.book_rows.specs.Book.{Book}
use Rattle.keeper_core.specs.Keeping.{BadRow}
use Rattle.program_answers.specs.{Answer.Answer, Answer.Ends, Opening.Door, Opening.TellsFault, Opening.bad_book, Opening.largest}
use Rattle.link_workers.specs.Links.{Served, TellsServed}
use Rattle.office_server.specs.{Links.ServesInTurn, Server.ComesOfLinks, Server.DeskServed, Server.EndsBy, Server.GivesAllBack, Server.IsUnserved, Server.IsWritten, Server.NamesFault, Server.ServesAll, Server.Writes, Server.book_line}

-- ---- one answer

-- an answer that was written ends by its own status, or the sink counted a fault
ends_four : (answer : Answer) (held held_now : Option (List ℕ)) (faults faults_now : ℕ) (status : ExitStatus) → (answer.status ≡ ExitStatus.WriteFault → ⊥) → status ≡ ExitStatus.WriteFault
    → Ends answer held held_now faults faults_now status → Faulted faults faults_now
ends_four answer held held_now faults faults_now status other is (inl ends) = absurd (other (sym ends.0 ∙ is))
ends_four answer held held_now faults faults_now status other is (inr ends) = ends.2

-- ---- a book that isn't opened

tells_none : (old new : Door) (why : DeskFault) (status : ExitStatus) → TellsFault old new why status → number_of status < 4 → ⊥
tells_none old new (DeskFault.BadBook found) status (inl (inl ends, _)) few = let is = ap number_of ends.0 in omega (arith, is, few)
tells_none old new (DeskFault.BadBook found) status (inl (inr ends, _)) few = let is = ap number_of ends.0 in omega (arith, is, few)
tells_none old new (DeskFault.BadBook found) status (inr (told, _)) few = let is = ap number_of told in omega (arith, is, few)
tells_none old new DeskFault.StoreFault status told few = let is = ap number_of told.0 in omega (arith, is, few)
tells_none old new DeskFault.NoMemory status told few = let is = ap number_of told.0 in omega (arith, is, few)

tells_four : (old new : Door) (why : DeskFault) (status : ExitStatus) → TellsFault old new why status → status ≡ ExitStatus.WriteFault → Faulted old.counts.sink new.counts.sink
tells_four old new (DeskFault.BadBook found) status (inl (ends, _)) four =
    ends_four (bad_book found) _ _ _ _ status (λ clash. cc clash) four ends
tells_four old new (DeskFault.BadBook found) status (inr (is, _)) four = let clash = sym is ∙ four in absurd (cc clash)
tells_four old new DeskFault.StoreFault status told four = let clash = sym told.0 ∙ four in absurd (cc clash)
tells_four old new DeskFault.NoMemory status told four = let clash = sym told.0 ∙ four in absurd (cc clash)

tells_five : (old new : Door) (why : DeskFault) (status : ExitStatus) → TellsFault old new why status → status ≡ ExitStatus.StoreFault → Faulted old.counts.keeper new.counts.keeper
tells_five old new (DeskFault.BadBook found) status (inl (inl ends, _)) five = let clash = sym ends.0 ∙ five in absurd (cc clash)
tells_five old new (DeskFault.BadBook found) status (inl (inr ends, _)) five = let clash = sym ends.0 ∙ five in absurd (cc clash)
tells_five old new (DeskFault.BadBook found) status (inr (is, _)) five = let clash = sym is ∙ five in absurd (cc clash)
tells_five old new DeskFault.StoreFault status told five = told.2
tells_five old new DeskFault.NoMemory status told five = let clash = sym told.0 ∙ five in absurd (cc clash)

tells_six : (holds : Book → Type 0) (bad : BadRow → Type 0) (old new : Door) (why : DeskFault) (status : ExitStatus) → IsUnopened largest holds bad why
    → TellsFault old new why status → status ≡ ExitStatus.BadBook → NamesFault holds bad old.held new.held
tells_six holds bad old new (DeskFault.BadBook found) status first (inl (inl ends, _)) six = (found, first, ends.1)
tells_six holds bad old new (DeskFault.BadBook found) status first (inl (inr ends, _)) six = let clash = sym ends.0 ∙ six in absurd (cc clash)
tells_six holds bad old new (DeskFault.BadBook found) status first (inr (is, _)) six = let clash = sym is ∙ six in absurd (cc clash)
tells_six holds bad old new DeskFault.StoreFault status first told six = let clash = sym told.0 ∙ six in absurd (cc clash)
tells_six holds bad old new DeskFault.NoMemory status first told six = let clash = sym told.0 ∙ six in absurd (cc clash)

-- ---- links that are all given back

all_back : (served : List Served) (links links_now : Links) (left_now : ℕ) → left_now ≡ 0 → Fits left_now links_now → TellsServed served links links_now
    → (links_now.left ≡ []) × (length links_now.given_back ≡ length links.given_back + length links.left)
all_back served links links_now left_now none fits tells =
    let last : length links_now.left ≡ 0 = fits.0 ∙ none in
    let came : length (map unused links.left) ≡ length (map (λ it. it.came) served ++ map unused links_now.left) = ap length tells.came in
    let joined = length-append (map (λ it. it.came) served) (map unused links_now.left) in
    let left_long = length-map links.left unused in
    let now_long = length-map links_now.left unused in
    let came_long = length-map served (λ it. it.came) in
    let back : length links_now.given_back ≡ length (links.given_back ++ map (λ it. it.given_back) served) = ap length tells.given_back in
    let back_joined = length-append links.given_back (map (λ it. it.given_back) served) in
    let back_long = length-map served (λ it. it.given_back) in
    (nil_from_length links_now.left last, omega (arith, last, came, joined, left_long, now_long, came_long, back, back_joined, back_long))

given_all : (served : List Served) (links links_now : Option Links) (left_now : ℕ) → left_now ≡ 0
    → IfSome links (λ told. (told_now : Links) × (links_now ≡ Some told_now) × Fits left_now told_now × TellsServed served told told_now)
    → IfSome links (λ told. GivesAllBack told links_now)
given_all served None links_now left_now none told = tt
given_all served (Some links) links_now left_now none (told_now, is, fits, tells) =
    let back = all_back served links told_now left_now none fits tells in (told_now, is, back.0, back.1)

-- ---- a server

module _
    {L : Type 0} (shows : ℕ → Type 0) (workers : ℕ) (listener listener_now : L) (left : L → ℕ) (links : L → Option Links)
    (holds holds_now : Book → Type 0) (bad_now : BadRow → Type 0) (may_leave : Option Book → Type 0) (old new : Door) (status : ExitStatus) where
  abbrev Came : Type 0
  Came = ComesOfLinks shows workers listener listener_now left links holds holds_now bad_now may_leave old new status

  abbrev Desk : Type 0
  Desk = DeskServed shows workers listener listener_now left links holds holds_now may_leave old new status

  -- links were served until none was left, and the line was written
  record Whole (d : Desk) : Type 0 where
    pub none_left : left listener_now ≡ 0
    pub source : new.counts.source ≡ old.counts.source
    pub written : Appends old.held new.held (book_line d.tables).text
    pub sink : new.counts.sink ≡ old.counts.sink

  whole_of : (d : Desk) → status ≡ ExitStatus.Done → Whole d
  whole_of d zero = by_end d.end where
    by_text : ServesAll (left listener_now) d.tables old new status
        → Writes (book_line d.tables) old.held new.held old.counts.sink new.counts.sink status → Whole d
    by_text all (inl (inl ends)) = record { none_left = all.none_left; source = all.source; written = ends.1; sink = ends.2 }
    by_text all (inl (inr ends)) = let clash = sym ends.0 ∙ zero in absurd (cc clash)
    by_text all (inr ends) = let clash = sym ends.0 ∙ zero in absurd (cc clash)

    by_end : EndsBy listener listener_now (left listener_now) d.tables old new status → Whole d
    by_end (inl all) = by_text all all.written
    by_end (inr (inl broken)) = let clash = sym broken.status_is ∙ zero in absurd (cc clash)
    by_end (inr (inr unserved)) = let clash = sym unserved.status_is ∙ zero in absurd (cc clash)

  whole : Came → status ≡ ExitStatus.Done → (d : Desk) × Whole d
  whole (inl d) zero = (d, whole_of d zero)
  whole (inr (same, fails)) zero = absurd (tells_none old new fails.why status fails.told (let few = ap number_of zero in omega (arith, few)))

  pub none_left : Came → status ≡ ExitStatus.Done → left listener_now ≡ 0
  none_left came zero = let w = whole came zero in w.1.none_left

  pub given_back : Came → workers ≡ 1 → status ≡ ExitStatus.Done → IfSome (links listener) (λ told. GivesAllBack told (links listener_now))
  given_back came one zero = let w = whole came zero in by_turn w.1.none_left (w.0.in_turn one)
    where
      by_turn : {tables : Book} → left listener_now ≡ 0
          → IsUnserved listener listener_now old new status ⊎ ServesInTurn shows (left listener) (left listener_now) (links listener) (links listener_now) may_leave tables
          → IfSome (links listener) (λ told. GivesAllBack told (links listener_now))
      by_turn none (inl unserved) = let clash = sym unserved.status_is ∙ zero in absurd (cc clash)
      by_turn none (inr turn) = given_all turn.served.served (links listener) (links listener_now) (left listener_now) none turn.served.told

  pub written : Came → status ≡ ExitStatus.Done → IsWritten holds_now old.held new.held
  written came zero = let w = whole came zero in (w.0.tables, w.1.written, w.0.leaves.kept)

  pub quiet : Came → status ≡ ExitStatus.Done → (new.counts.source ≡ old.counts.source) × (new.counts.sink ≡ old.counts.sink)
  quiet came zero = let w = whole came zero in (w.1.source, w.1.sink)

  -- no other end but a failed accept has that status
  pub accept_fault : Came → status ≡ ExitStatus.ReadFault → (0 < left listener_now) × Faulted old.counts.source new.counts.source
  accept_fault (inl d) three = by_end d.end where
    by_text : Writes (book_line d.tables) old.held new.held old.counts.sink new.counts.sink status
        → (0 < left listener_now) × Faulted old.counts.source new.counts.source
    by_text (inl (inl ends)) = let clash = sym ends.0 ∙ three in absurd (cc clash)
    by_text (inl (inr ends)) = let clash = sym ends.0 ∙ three in absurd (cc clash)
    by_text (inr ends) = let clash = sym ends.0 ∙ three in absurd (cc clash)

    by_end : EndsBy listener listener_now (left listener_now) d.tables old new status → (0 < left listener_now) × Faulted old.counts.source new.counts.source
    by_end (inl all) = by_text all.written
    by_end (inr (inl broken)) = (broken.some_left, broken.source)
    by_end (inr (inr unserved)) = let clash = sym unserved.status_is ∙ three in absurd (cc clash)
  accept_fault (inr (same, fails)) three = absurd (tells_none old new fails.why status fails.told (let few = ap number_of three in omega (arith, few)))

  pub write_fault : Came → status ≡ ExitStatus.WriteFault → Faulted old.counts.sink new.counts.sink
  write_fault (inl d) four = by_end d.end where
    by_text : Writes (book_line d.tables) old.held new.held old.counts.sink new.counts.sink status → Faulted old.counts.sink new.counts.sink
    by_text (inl ends) = ends_four (book_line d.tables) _ _ _ _ status (λ clash. cc clash) four ends
    by_text (inr ends) = let clash = sym ends.0 ∙ four in absurd (cc clash)

    by_end : EndsBy listener listener_now (left listener_now) d.tables old new status → Faulted old.counts.sink new.counts.sink
    by_end (inl all) = by_text all.written
    by_end (inr (inl broken)) = let clash = sym broken.status_is ∙ four in absurd (cc clash)
    by_end (inr (inr unserved)) = let clash = sym unserved.status_is ∙ four in absurd (cc clash)
  write_fault (inr (same, fails)) four = tells_four old new fails.why status fails.told four

  -- a desk that was opened has only these ends
  served_status : Desk → (status ≡ ExitStatus.StoreFault) ⊎ (status ≡ ExitStatus.BadBook) → ⊥
  served_status d is = by_end d.end is where
    by_text : Writes (book_line d.tables) old.held new.held old.counts.sink new.counts.sink status → (status ≡ ExitStatus.StoreFault) ⊎ (status ≡ ExitStatus.BadBook) → ⊥
    by_text (inl (inl ends)) (inl five) = let clash = sym ends.0 ∙ five in cc clash
    by_text (inl (inl ends)) (inr six) = let clash = sym ends.0 ∙ six in cc clash
    by_text (inl (inr ends)) (inl five) = let clash = sym ends.0 ∙ five in cc clash
    by_text (inl (inr ends)) (inr six) = let clash = sym ends.0 ∙ six in cc clash
    by_text (inr ends) (inl five) = let clash = sym ends.0 ∙ five in cc clash
    by_text (inr ends) (inr six) = let clash = sym ends.0 ∙ six in cc clash

    by_end : EndsBy listener listener_now (left listener_now) d.tables old new status → (status ≡ ExitStatus.StoreFault) ⊎ (status ≡ ExitStatus.BadBook) → ⊥
    by_end (inl all) five_or_six = by_text all.written five_or_six
    by_end (inr (inl broken)) (inl five) = let clash = sym broken.status_is ∙ five in cc clash
    by_end (inr (inl broken)) (inr six) = let clash = sym broken.status_is ∙ six in cc clash
    by_end (inr (inr unserved)) (inl five) = let clash = sym unserved.status_is ∙ five in cc clash
    by_end (inr (inr unserved)) (inr six) = let clash = sym unserved.status_is ∙ six in cc clash

  pub store_fault : Came → status ≡ ExitStatus.StoreFault → (listener_now ≡ listener) × Faulted old.counts.keeper new.counts.keeper
  store_fault (inl d) five = absurd (served_status d (inl five))
  store_fault (inr (same, fails)) five = (same, tells_five old new fails.why status fails.told five)

  pub bad_book_told : Came → status ≡ ExitStatus.BadBook → (listener_now ≡ listener) × NamesFault holds_now bad_now old.held new.held
  bad_book_told (inl d) six = absurd (served_status d (inr six))
  bad_book_told (inr (same, fails)) six = (same, tells_six holds_now bad_now old new fails.why status fails.is_why fails.told six)
