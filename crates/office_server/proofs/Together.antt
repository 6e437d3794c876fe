-- The links that a server's workers gave back, by one history.
use Rattle.std.proofs.Common.{◌≡◌, ◌∙◌, ◌+◌, ◌<◌, ◌≤◌, ℕ, List, length, arith}
use Rattle.std.specs.Prelude.{All, Option}
use Rattle.std.proofs.lemmas.List.Elements.{All-contains}
use Rattle.book_rows.specs.{declared.rows.ActRow.ActRow, Book.Book}
use Rattle.desk_history.specs.declared.views.{PassView.PassView, Start.Start}
use Rattle.http_front.specs.Together.{ByPass, KnowsBeginning, SessionsShareAHistory}
use Rattle.link_workers.proofs.GivenBack.{tells_otherwise}
use Rattle.link_workers.specs.Links.{IsLogged, IsServedByOne, Served}
use Rattle.shared_desk.specs.{Calls.Further, History.IsLegalHistory, Passes.AreFresh}
use Rattle.office_server.proofs.SeatLemmas.{fresh_at, further_number}
use Rattle.office_server.specs.{Links.IsServed, Together.IsAnswered, Together.LinksShareAHistory, Together.exchange_of}

-- new passes have the numbers from the next one on
fresh_numbers : (start : Start) (next : ℕ) (passes : List PassView) → AreFresh start next passes
    → All (λ pass. (next ≤ pass.number) × (pass.number < next + length passes)) passes
fresh_numbers start next passes fresh = λ k d within. let at = fresh_at start next passes fresh k d within in (omega (arith, at), omega (arith, at, within))

module _
    {Clock Keeper : Type 0} (may_show : Clock → ℕ → Type 0) (holds : Keeper → Book → Type 0) (leaves : Keeper → Option Book → Type 0) (tells : Keeper → Type 0)
    (share : SessionsShareAHistory may_show) where
  answered : (clock : Clock) (workers : ℕ) (start : Start) (history : List ActRow) (passes : List PassView) → IsLegalHistory start history
      → length passes ≡ workers → AreFresh start 1 passes → (link : Served)
      → IsLogged (IsServedByOne (λ pass link pass_now. IsServed (may_show clock) pass pass_now link) Further passes) (KnowsBeginning start history) link
      → IsAnswered (may_show clock) workers start history link
  answered clock workers start history passes legal many fresh link (pass_now, made, knows) =
      let (pass, among, by_pass) = made in
      let (mid, further, served) = by_pass in
      let exchange = exchange_of link served.end in
      let by : ByPass (may_show clock) mid pass_now exchange = record { ends = served.ends; complete = served.complete } in
      let replies = share start history clock clock mid pass_now mid pass_now exchange exchange by by
      (record { legal = legal; first_begins = knows; other_begins = knows }) in
      let number = further_number mid pass_now served.further ∙ further_number pass mid further in
      let bounds = All-contains (λ (p : PassView). (1 ≤ p.number) × (p.number < 1 + length passes)) passes pass (fresh_numbers start 1 passes fresh) among in
      let least = bounds.0 in
      let most = bounds.1 in
      record {
        number = pass_now.number;
        first = omega (arith, number, least);
        last = omega (arith, number, most, many);
        before = length mid.list;
        after = length pass_now.list;
        end = served.end;
        replies = replies.0;
        cause = served.cause;
      }

  pub links_share_a_history : LinksShareAHistory may_show holds leaves tells
  links_share_a_history clock keeper keeper_now workers links links_now tables together = record {
    start = together.start;
    history = together.history;
    legal = together.legal;
    whole = together.whole;
    given_back = tells_otherwise _ (IsAnswered (may_show clock) workers together.start together.history)
        (answered clock workers together.start together.history together.passes together.legal together.many together.fresh) links links_now together.given_back;
  }
