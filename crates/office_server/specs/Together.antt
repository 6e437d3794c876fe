-- The links of one server, by one history: on each stand the replies of the office of one clerk at points of it.
use Rattle.std.specs.Prelude.{◌≡◌, ◌≤◌, ℕ, Option, List}
use Rattle.book_rows.specs.{declared.rows.ActRow.ActRow, Book.Book}
use Rattle.desk_history.specs.declared.views.Start.{Start}
use Rattle.shared_desk.specs.{History.IsLegalHistory, History.tables_at}
use Rattle.http_front.specs.Below.http_session.{Sessions.EndCause, declared.end.SessionEnd.SessionEnd}
use Rattle.http_front.specs.Together.{Exchange, Exchanges, IsReplyAt, point_behind}
use Rattle.link_workers.specs.Links.{Served, TellsBack}
use Rattle.office_links.specs.Links.{Links}
use Rattle.office_server.specs.Links.{MayLeaveNow, ServesTogether}

-- what a link's source had left and its sink held, before and after a session that ended so
abbrev pub exchange_of : Served → SessionEnd → Exchange
exchange_of link end = record {
  left = link.came.left;
  left_now = link.given_back.left;
  held = link.came.held;
  held_now = link.given_back.held;
  end = end;
}

-- A session of one of so many numbers answered the messages of a link. Its replies are those of the office of one clerk at
-- points of the history that rise, from behind so many rows to behind so many.
pub record IsAnswered (shows : ℕ → Type 0) (workers : ℕ) (start : Start) (history : List ActRow) (link : Served) : Type 0 where
  pub number : ℕ
  pub first : 1 ≤ number
  pub last : number ≤ workers
  pub before : ℕ
  pub after : ℕ
  pub end : SessionEnd
  pub replies : Exchanges (IsReplyAt shows start history number) (point_behind start) before after (exchange_of link end)
  pub cause : EndCause link.came.failed_reads link.given_back.failed_reads link.came.failed_writes link.given_back.failed_writes end

-- all links that were given back, by one legal history, after which the tables are left
pub record ShareAHistory (shows : ℕ → Type 0) (workers : ℕ) (links links_now : Option Links) (tables : Book) : Type 0 where
  pub start : Start
  pub history : List ActRow
  pub legal : IsLegalHistory start history
  pub whole : tables ≡ tables_at start history
  pub given_back : TellsBack (IsAnswered shows workers start history) links links_now

-- ---- law

-- However many workers a server has, by whatever clock and over whatever keeper: the links that they gave back share a history.
abbrev pub LinksShareAHistory : {Clock Keeper : Type 0} → (Clock → ℕ → Type 0) → (Keeper → Book → Type 0) → (Keeper → Option Book → Type 0) → (Keeper → Type 0) → Type 0
LinksShareAHistory {Clock} {Keeper} may_show holds leaves tells = (clock : Clock) (keeper keeper_now : Keeper) (workers : ℕ) (links links_now : Option Links) (tables : Book) →
    ServesTogether (may_show clock) workers links links_now
    (MayLeaveNow (holds keeper) (leaves keeper) (tells keeper) (holds keeper_now) (leaves keeper_now) (tells keeper_now)) tables →
    ShareAHistory (may_show clock) workers links links_now tables
