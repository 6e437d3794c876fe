-- Acts that are done again, one after another.
use Rattle.book_replay.proofs.Words.{◌≡◌, ◌∙◌, sym, ap, refl, ℕ, ◌+◌, arith, List, [], ◌∷◌, Option, Some, None, length, drop, slice_get, option_to_list, length-drop, option_or, option_map, pointwise, pointwise_decides, drop_all, take_all, take_more, length-take, slice_get_within, get_or_from_slice_get, ActRow, Batch, Book, empty_book, appended, same_act, same_record, same_line, act_equal, Capacity, IsAppended, IsReached, reached_empty, reached_more, fault_in, replayed, difference, records_by, lines_by, with_rows, fault_from, AppendedIsAccepted, IsReplayed, ReplayBegins, ReplayGoesOn, ReplayStops, ReplayEnds, ReplayedIsGiven, ValidIsReached, unless_none, option_map_none}
use Rattle.book_rows.specs.declared.rows.Table.{Table}
use Rattle.book_replay.proofs.{Gathered.act_more, Gathered.gathered_all, Compared.past, Compared.drop_at, Reached.records_decide, Reached.lines_decide}
use Rattle.office_step.proofs.Passed.{or_none}
use Rattle.office_laws.proofs.Replay.{replayed_is_appended}

-- ---- what is told by one act

-- the rows are the row's own, and those which the tables have of it
pub record HasRowsOf (tables : Book) (row : ActRow) (rows : Batch) : Type 0 where
  pub act : rows.act ≡ row
  pub made : option_to_list rows.made ≡ records_by row.n tables.records
  pub lines : rows.lines ≡ lines_by row.n tables.lines

no_difference : (tables : Book) (row : ActRow) (rows : Batch) → difference tables row (Some rows) ≡ None → HasRowsOf tables row rows
no_difference tables row rows none =
    let act = unless_none (same_act rows.act row) _ _ none in
    let made = unless_none (pointwise same_record (option_to_list rows.made) (records_by row.n tables.records)) _ _ act.1 in
    let lines = unless_none (pointwise same_line rows.lines (lines_by row.n tables.lines)) _ _ made.1 in
    record {
      act = act_equal rows.act row act.0;
      made = (pointwise_decides records_decide (option_to_list rows.made) (records_by row.n tables.records)).0 made.0;
      lines = (pointwise_decides lines_decide rows.lines (lines_by row.n tables.lines)).0 lines.0;
    }

-- ---- one act after another

pub replay_begins : ReplayBegins
replay_begins capacity tables = record { reached = reached_empty; acts = refl; records = refl; lines = refl; fault = refl }

pub replay_goes_on : AppendedIsAccepted → ReplayGoesOn
replay_goes_on accepted capacity tables count book row rows so_far is redone none =
    let own : HasRowsOf tables row rows = no_difference tables row rows none in
    let more : IsAppended capacity book rows = replayed_is_appended capacity book row rows redone in
    let within = slice_get_within tables.acts count row is in
    let whole = length-take count tables.acts in
    let number : row.n ≡ count + 1 =
    omega (arith, ap (λ (r : ActRow). r.n) own.act, (accepted capacity book rows more).n, ap length so_far.acts, within, whole) in
    record {
      reached = reached_more so_far.reached more;
      acts = rw (so_far.acts, own.act, take_more tables.acts count row within, get_or_from_slice_get tables.acts count row row is) refl;
      records = rw (so_far.records, own.made) (sym (act_more (λ n. records_by n tables.records) count row.n number));
      lines = rw (so_far.lines, own.lines) (sym (act_more (λ n. lines_by n tables.lines) count row.n number));
      fault = so_far.fault ∙ rw (drop_at tables.acts count row is, redone, none) refl;
    }

pub replay_stops : ReplayStops
replay_stops capacity tables count book row fault so_far is found =
    so_far.fault ∙ rw (drop_at tables.acts count row is, found) refl

pub replay_ends : ReplayEnds
replay_ends capacity tables count book so_far all = so_far.fault ∙ ap (fault_from capacity tables book) (drop_all count tables.acts all)

-- no row is out of place
strays : (records lines : Option ℕ) → option_or (option_map (fault_in Table.Records) records) (option_map (fault_in Table.Lines) lines) ≡ None →
    (records ≡ None) × (lines ≡ None)
strays records lines none =
    let both = or_none (option_map (fault_in Table.Records) records) (option_map (fault_in Table.Lines) lines) none in
    (option_map_none _ records both.0, option_map_none _ lines both.1)

pub replayed_is_given : ReplayedIsGiven
replayed_is_given capacity tables count book so_far all none =
    let in_place = strays _ _ none in
    let acts = so_far.acts ∙ take_all count tables.acts all in
    let records = so_far.records ∙ gathered_all (λ r. r.act) (length tables.acts) count tables.records all in_place.0 in
    let lines = so_far.lines ∙ gathered_all (λ line. line.act) (length tables.acts) count tables.lines all in_place.1 in
    λ i. record { acts = acts i; records = records i; lines = lines i }

-- ---- valid tables

next_there : {X : Type 0} (count : ℕ) (xs : List X) (x : X) (rest : List X) → drop count xs ≡ x ∷ rest →
    (slice_get xs count ≡ Some x) × (drop (count + 1) xs ≡ rest)
next_there count xs x rest is = by_place (slice_get xs count) refl
  where
    by_place : (found : Option _) → slice_get xs count ≡ found → (found ≡ Some x) × (drop (count + 1) xs ≡ rest)
    by_place None there = absurd (cc (past xs count there))
    by_place (Some y) there = let split = drop_at xs count y there in (cc, cc)

module _ (accepted : AppendedIsAccepted) (capacity : Capacity) (tables : Book) where
  valid_from : (rest : List ActRow) (count : ℕ) (book : Book) → IsReplayed capacity tables count book → drop count tables.acts ≡ rest →
      fault_from capacity tables book rest ≡ None → IsReached capacity tables
  valid_from [] count book so_far left none =
      rw (← replayed_is_given capacity tables count book so_far (omega (arith, length-drop count tables.acts, ap length left)) none) so_far.reached
  valid_from (row ∷ rest) count book so_far left none =
      by_rows (λ next_book later. valid_from rest (count + 1) next_book later next.1) (replayed capacity book row) refl none
    where
      next : (slice_get tables.acts count ≡ Some row) × (drop (count + 1) tables.acts ≡ rest)
      next = next_there count tables.acts row rest left

      by_rows : ((next_book : Book) → IsReplayed capacity tables (count + 1) next_book → fault_from capacity tables next_book rest ≡ None → IsReached capacity tables) →
          (found : Option Batch) → replayed capacity book row ≡ found →
          option_or (difference tables row found) (fault_from capacity tables (with_rows book found) rest) ≡ None → IsReached capacity tables
      by_rows on None redone none = absurd (cc)
      by_rows on (Some rows) redone none =
          let both = or_none (difference tables row (Some rows)) (fault_from capacity tables (appended book rows) rest) none in
          on (appended book rows) (replay_goes_on accepted capacity tables count book row rows so_far next.0 redone both.0) both.1

pub valid_is_reached : AppendedIsAccepted → ValidIsReached
valid_is_reached accepted capacity tables none =
    valid_from accepted capacity tables tables.acts 0 empty_book (replay_begins capacity tables) refl none
