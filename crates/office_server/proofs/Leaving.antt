-- What a desk leaves that ends with a pass.
use Rattle.std.proofs.Common.{◌≡◌, ◌∙◌, ◌⊎◌, ◌<◌, ◌≤◌, inl, inr, refl, ℕ, ◌+◌, ◌-◌, List, [], ◌∷◌, ◌++◌, length, get_or, ap, sym, subst, arith}
use Rattle.std.proofs.lemmas.List.Elements.{All-contains, All-push, Contains-get_or}
use Rattle.std.specs.{Prelude.All, Prelude.Contains, Prelude.Option, Prelude.None, Io.KnownBytes.Keeps as KeepsBytes}
use Rattle.office_io.specs.Outside.{Faulted}
use Rattle.book_rows.specs.{declared.rows.Batch.Batch, Book.Book, Book.appended}
use Rattle.desk_history.proofs.Entries.{of_rows, those_own}
use Rattle.desk_history.specs.{declared.views.PassView.PassView, declared.views.Start.Start, Laws.EntriesAreOfTheNumber, Rule.AreOfPasses, Seen.entries_of, Seen.tries_of}
use Rattle.http_front.specs.Together.{KnowsBeginning}
use Rattle.link_workers.proofs.GivenBack.{tells_otherwise}
use Rattle.link_workers.specs.Links.{IsLogged, IsServedByOne}
use Rattle.office_links.specs.Links.{Links}
use Rattle.http_front.specs.Below.clerk_desk.Serving.{IsLeft}
use Rattle.program_answers.specs.{Keeping.OutlivesStops, Opening.Door, Opening.door, Opening.largest}
use Rattle.shared_desk.specs.{Calls.Further, Deciding.IsLeftBy, Desk.HasItsOwn, Desk.IsFinishedWith, History.IsLegalHistory, History.capacity_of, History.tables_at, Passes.AreFresh, Passes.IsFresh}
use Rattle.office_io.specs.declared.status.ExitStatus.{ExitStatus}
use Rattle.office_server.proofs.Logs.{knows_on, prefix_joins}
use Rattle.office_server.proofs.SeatLemmas.{fresh_at, further_number}
use Rattle.office_server.specs.{Links.HasLearned, Links.IsLeftByOne, Links.IsServed, Links.LeavesDesk, Links.LeavesTried, Links.MayLeave, Links.MayLeaveNow, Links.ServesAlone, Links.ServesInTurn, Links.ServesTogether, Links.WorksBy, Server.EndsBy, Server.IsUnserved, Server.Writes, Server.book_line, declared.desk.ServeEnd.ServeEnd}

-- what is tried of the first session alone is all of its number
tried_alone : (number : ℕ) (tried : List Batch) → number ≡ 1 → AreOfPasses 2 tried → tries_of number tried ≡ tried
tried_alone number tried one all =
    those_own of_rows number tried (λ k d within. let bounds = all k d within in let low = bounds.0 in let high = bounds.1 in omega (arith, low, high, one))

module _ (start : Start) (pass : PassView) (made : ℕ) (tables : Book) (told holds : Book → Type 0) (well sound tells : Type 0) (leaves : Option Book → Type 0) (same : pass.start ≡ start)
    (others : List PassView) (ends : IsFinishedWith others pass made tables told holds well sound tells leaves) where
  pub leaves_desk : capacity_of start ≡ largest → LeavesDesk told holds tables
  leaves_desk capacity = record {
    start = pass.start;
    capacity = subst (λ (s : Start). capacity_of s ≡ largest) (sym same) capacity;
    history = ends.end.history;
    legal = ends.end.legal;
    whole = ends.end.whole;
    kept = ends.end.kept;
    first = ends.end.first;
  }

  by_tries : capacity_of start ≡ largest → (after : Option Book) → MayLeave sound tells holds leaves after → IsLeftBy largest tables ends.end.tried after
  by_tries capacity after (is_sound, tell, (now, is), left) =
      subst (λ capacity. IsLeftBy capacity tables ends.end.tried after) (subst (λ (s : Start). capacity_of s ≡ largest) (sym same) capacity) (ends.end.stopped is_sound tell now is after left)

  pub leaves_tried : (workers : ℕ) → capacity_of start ≡ largest → made ≤ workers → LeavesTried workers (MayLeave sound tells holds leaves) tables
  leaves_tried workers capacity few = record {
    tried = ends.end.tried;
    of_workers = λ k d within. let bounds = ends.end.of_passes k d within in let high = bounds.1 in (bounds.0, omega (arith, high, few));
    left = by_tries capacity;
  }

  pub in_turn : (shows : ℕ → Type 0) (first : PassView) (left left_now : ℕ) (links links_now : Option Links) → capacity_of start ≡ largest → made ≤ 1 → IsFresh start 1 first
      → ServesAlone shows first pass left left_now links links_now → ServesInTurn shows left left_now links links_now (MayLeave sound tells holds leaves) tables
  in_turn shows first left left_now links links_now capacity few fresh alone = record {
    start = start;
    pass = first;
    fresh = fresh;
    pass_now = alone.pass_now;
    served = alone.served;
    history = ends.end.history;
    legal = subst (λ (s : Start). IsLegalHistory s ends.end.history) same ends.end.legal;
    front = prefix_joins _ _ _ alone.learned.front ends.end.front;
    whole = subst (λ (s : Start). tables ≡ tables_at s ends.end.history) same ends.end.whole;
    stopped = λ after may.
        let first_alone : AreOfPasses 2 ends.end.tried = λ k d within. let bounds = ends.end.of_passes k d within in let high = bounds.1 in (bounds.0, omega (arith, high, few)) in
        let own : ends.end.tried ≡ alone.pass_now.tried = sym (tried_alone pass.number ends.end.tried (alone.learned.number ∙ (alone.number ∙ fresh.number_is)) first_alone) ∙ (ends.end.own_tries ∙ alone.learned.tried) in
        subst (λ tried. IsLeftBy largest tables tried after) own (by_tries capacity after may);
  }

  -- the pass that ended the desk, before it learned what others know
  own_of : (end : PassView) → HasLearned end pass → HasItsOwn ends.end.history ends.end.tried end
  own_of end learned = record {
    front = prefix_joins _ _ _ learned.front ends.end.front;
    own = subst (λ number. entries_of number ends.end.history ≡ entries_of end.number end.list) learned.number (ends.end.own ∙ learned.own);
    own_tries = subst (λ number. tries_of number ends.end.tried ≡ end.tried) learned.number (ends.end.own_tries ∙ learned.tried);
  }

  -- and together, where the pass knows what each of those that served knows
  module _
      (shows : ℕ → Type 0) (workers : ℕ) (passes : List PassView) (links links_now : Option Links) (many : length passes ≡ workers) (few : made ≤ workers)
      (capacity : capacity_of start ≡ largest) (fresh : AreFresh start 1 passes) (works : WorksBy shows passes others pass links links_now) (laws : EntriesAreOfTheNumber) where
    abbrev passes_now : List PassView
    passes_now = others ++ works.end ∷ []

    owns : All (HasItsOwn ends.end.history ends.end.tried) passes_now
    owns = All-push (HasItsOwn ends.end.history ends.end.tried) others works.end ends.own (own_of works.end works.learned)

    -- a try of a number is one of the pass that has it
    is_of_one : (rows : Batch) → Contains ends.end.tried rows → (pass_now : PassView) × Contains passes_now pass_now × Contains pass_now.tried rows
    is_of_one rows among =
        let bounds = All-contains (λ (it : Batch). (1 ≤ it.act.session) × (it.act.session < made + 1)) ends.end.tried rows ends.end.of_passes among in
        let low = bounds.0 in
        let high = bounds.1 in
        let place : ℕ = rows.act.session - 1 in
        let within : place < length passes = omega (arith, low, high, few, many) in
        let within_now : place < length passes_now = let same = works.follows.many in omega (arith, within, same) in
        let pass_now = get_or passes_now place works.end in
        let goes = further_number (get_or passes place works.end) pass_now (works.follows.each place works.end within) in
        let at = fresh_at start 1 passes fresh place works.end within in
        let number : rows.act.session ≡ pass_now.number = omega (arith, goes, at, low) in
        let of_number = (laws.tries rows.act.session ends.end.tried rows).stands among refl in (
          pass_now,
          Contains-get_or passes_now place works.end within_now,
          subst (λ tried. Contains tried rows) (ap (λ n. tries_of n ends.end.tried) number ∙ (owns place works.end within_now).own_tries) of_number,
        )

    left_by_one : (after : Option Book) → IsLeftBy largest tables ends.end.tried after → IsLeftByOne tables passes_now after
    left_by_one after (inl same) = inl same
    left_by_one after (inr on) =
        let one = is_of_one on.rows on.were_tried in
        inr (one.0, one.1, record { rows = on.rows; were_tried = one.2; appends_them = on.appends_them; left = on.left })

    pub together : ServesTogether shows workers links links_now (MayLeave sound tells holds leaves) tables
    together = record {
      start = start;
      passes = passes;
      many = many;
      fresh = fresh;
      passes_now = passes_now;
      follows = works.follows;
      history = ends.end.history;
      given_back = (let by = IsServedByOne (λ pass link pass_now. IsServed shows pass pass_now link) Further passes in
          tells_otherwise (IsLogged by (KnowsBeginning pass.start pass.list)) (IsLogged by (KnowsBeginning start ends.end.history))
          (λ link logged. (logged.0, logged.1, knows_on pass.start start pass.list ends.end.history logged.0 (sym same) ends.end.front logged.2)) links links_now works.given_back);
      legal = subst (λ (s : Start). IsLegalHistory s ends.end.history) same ends.end.legal;
      fronts = λ k d within. (owns k d within).front;
      own = λ k d within. (owns k d within).own;
      whole = subst (λ (s : Start). tables ≡ tables_at s ends.end.history) same ends.end.whole;
      stopped = λ after may. left_by_one after (by_tries capacity after may);
    }

-- the book that the desk was told of, said otherwise
pub told_otherwise : (told other holds : Book → Type 0) (tables : Book) → ((book : Book) → told book → other book) → LeavesDesk told holds tables → LeavesDesk other holds tables
told_otherwise told other holds tables means leaves = record {
  start = leaves.start;
  capacity = leaves.capacity;
  history = leaves.history;
  legal = leaves.legal;
  whole = leaves.whole;
  kept = leaves.kept;
  first = λ now is. means _ (leaves.first now is);
}

-- what a stop may leave, said otherwise
pub leaves_otherwise : (workers : ℕ) (may_leave other : Option Book → Type 0) (tables : Book) → ((after : Option Book) → other after → may_leave after)
    → LeavesTried workers may_leave tables → LeavesTried workers other tables
leaves_otherwise workers may_leave other tables means leaves = record {
  tried = leaves.tried;
  of_workers = leaves.of_workers;
  left = λ after may. leaves.left after (means after may);
}

pub in_turn_otherwise : (shows : ℕ → Type 0) (left left_now : ℕ) (links links_now : Option Links) (may_leave other : Option Book → Type 0) (tables : Book)
    → ((after : Option Book) → other after → may_leave after) → ServesInTurn shows left left_now links links_now may_leave tables
    → ServesInTurn shows left left_now links links_now other tables
in_turn_otherwise shows left left_now links links_now may_leave other tables means turn = record {
  start = turn.start;
  pass = turn.pass;
  fresh = turn.fresh;
  pass_now = turn.pass_now;
  served = turn.served;
  history = turn.history;
  legal = turn.legal;
  front = turn.front;
  whole = turn.whole;
  stopped = λ after may. turn.stopped after (means after may);
}

pub together_otherwise : (shows : ℕ → Type 0) (workers : ℕ) (links links_now : Option Links) (may_leave other : Option Book → Type 0) (tables : Book)
    → ((after : Option Book) → other after → may_leave after) → ServesTogether shows workers links links_now may_leave tables
    → ServesTogether shows workers links links_now other tables
together_otherwise shows workers links links_now may_leave other tables means serves = record {
  start = serves.start;
  passes = serves.passes;
  many = serves.many;
  fresh = serves.fresh;
  passes_now = serves.passes_now;
  follows = serves.follows;
  history = serves.history;
  given_back = serves.given_back;
  legal = serves.legal;
  fronts = serves.fronts;
  own = serves.own;
  whole = serves.whole;
  stopped = λ after may. serves.stopped after (means after may);
}

-- rows that were tried are those of a further act
is_left : (held : Book) (tried : List Batch) (after : Option Book) → IsLeftBy largest held tried after → IsLeft largest held after
is_left held tried after (inl same) = inl same
is_left held tried after (inr on) =
    inr (appended held on.rows, record { rows = on.rows; appends_them = on.appends_them; makes = refl; left = on.left })

-- what the desk's tables outlive, the keeper's book does, which is the same
pub outlives : (workers : ℕ) (tables : Book) (holds : Book → Type 0) (leaves : Option Book → Type 0) (tells : Type 0)
    (holds_now : Book → Type 0) (leaves_now : Option Book → Type 0) (tells_now : Type 0)
    → ((now : Book) → holds_now now → now ≡ tables)
    → LeavesTried workers (MayLeaveNow holds leaves tells holds_now leaves_now tells_now) tables → OutlivesStops holds leaves tells holds_now leaves_now tells_now
outlives workers tables holds leaves tells holds_now leaves_now tells_now kept by is_sound tell now is after left =
    subst (λ held. IsLeft largest held after) (sym (kept now is)) (is_left tables by.tried after (by.left after (is_sound, tell, (now, is), left)))

-- ---- how it ended

pub turned : (Served InTurn : Type 0) (end end_now : ServeEnd) → end_now ≡ end → (Served → InTurn) → (end ≡ ServeEnd.Unserved) ⊎ Served → (end_now ≡ ServeEnd.Unserved) ⊎ InTurn
turned Served InTurn end end_now same turns (inl is) = inl (same ∙ is)
turned Served InTurn end end_now same turns (inr served) = inr (turns served)

module _
    {L : Type 0} (at at_now : L) (left_now : ℕ) (tables : Book) (held held_now : Option (List ℕ)) (listener listener_now sink sink_now keeper keeper_now : ℕ) (status : ExitStatus) where
  abbrev old : Door
  old = door None held listener sink keeper

  abbrev new : Door
  new = door None held_now listener_now sink_now keeper_now

  unserved : (end : ServeEnd) → (end ≡ ServeEnd.Unserved → at_now ≡ at) → (end ≡ ServeEnd.Unserved → listener_now ≡ listener) → (end ≡ ServeEnd.Unserved → (status ≡ ExitStatus.NoMemory) × KeepsBytes held held_now × (sink_now ≡ sink))
      → end ≡ ServeEnd.Unserved → IsUnserved at at_now old new status
  unserved end same stays told is = let t = told is in record { same = same is; source = stays is; held = t.1; sink = t.2; status_is = t.0 }

  pub ends_by : (end : ServeEnd)
      → (end ≡ ServeEnd.Whole → (left_now ≡ 0) × (listener_now ≡ listener))
      → (end ≡ ServeEnd.AcceptFailed → (0 < left_now) × Faulted listener listener_now)
      → (end ≡ ServeEnd.Unserved → at_now ≡ at)
      → (end ≡ ServeEnd.Unserved → listener_now ≡ listener)
      → (end ≡ ServeEnd.Whole → Writes (book_line tables) held held_now sink sink_now status)
      → (end ≡ ServeEnd.AcceptFailed → (status ≡ ExitStatus.ReadFault) × KeepsBytes held held_now × (sink_now ≡ sink))
      → (end ≡ ServeEnd.Unserved → (status ≡ ExitStatus.NoMemory) × KeepsBytes held held_now × (sink_now ≡ sink))
      → EndsBy at at_now left_now tables old new status
  ends_by ServeEnd.Whole whole failed same stays told_whole told_failed told_unserved =
      let w = whole refl in inl (record { none_left = w.0; source = w.1; written = told_whole refl })
  ends_by ServeEnd.AcceptFailed whole failed same stays told_whole told_failed told_unserved =
      let f = failed refl in let t = told_failed refl in
      inr (inl (record { some_left = f.0; source = f.1; held = t.1; sink = t.2; status_is = t.0 }))
  ends_by ServeEnd.Unserved whole failed same stays told_whole told_failed told_unserved =
      inr (inr (unserved ServeEnd.Unserved same stays told_unserved refl))

  pub turn_by : (end : ServeEnd) (InTurn : Type 0) → (end ≡ ServeEnd.Unserved → at_now ≡ at) → (end ≡ ServeEnd.Unserved → listener_now ≡ listener)
      → (end ≡ ServeEnd.Unserved → (status ≡ ExitStatus.NoMemory) × KeepsBytes held held_now × (sink_now ≡ sink)) → (end ≡ ServeEnd.Unserved) ⊎ InTurn → IsUnserved at at_now old new status ⊎ InTurn
  turn_by end InTurn same stays told (inl is) = inl (unserved end same stays told is)
  turn_by end InTurn same stays told (inr turn) = inr turn
