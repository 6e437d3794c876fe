-- Rows that are the same field by field are equal.
use Rattle.std.proofs.Common.{◌≡◌, ℕ, ◌&&◌, ◌==◌, Bool, true, Option, Some, None, if◌then◌else◌, refl, ap, sym, ◌∙◌}
use Rattle.std.specs.{Bool.beq, Cmp.booleans_Decides, Option.option_eq}
use Rattle.std.proofs.lemmas.{Bool.and_parts, Bool.eqb-true, Bool.Decides.Decides-int_eq, Slice.Eq.bytes_eq-Decides}
use Rattle.record_history.specs.declared.records.{Kind.Kind, Dates.Dates, Record.Record}
use Rattle.voucher_core.specs.declared.line.Line.{Line}
use Rattle.book_rows.specs.declared.rows.ActRow.{ActRow}
use Rattle.book_rows.specs.Same.{kind_number, same_dates, same_heading, same_figures, same_act, same_record, same_line}

-- the first of two tests, of numbers, and the second
number_first : (a b : ℕ) (rest : Bool) → (a == b && rest) ≡ true → (a ≡ b) × (rest ≡ true)
number_first a b rest h = let both = and_parts (a == b) rest h in (eqb-true a b both.0, both.1)

abbrev kind_from : ℕ → Kind
kind_from number =
    if number == 1 then Kind.MI
    else (if number == 2 then Kind.IC
    else (if number == 3 then Kind.AR
    else (if number == 4 then Kind.IR
    else (if number == 5 then Kind.GR
    else (if number == 6 then Kind.UT
    else (if number == 7 then Kind.MO
    else (if number == 8 then Kind.TM
    else Kind.WD)))))))

kind_again : (k : Kind) → kind_from (kind_number k) ≡ k
kind_again Kind.MI = refl
kind_again Kind.IC = refl
kind_again Kind.AR = refl
kind_again Kind.IR = refl
kind_again Kind.GR = refl
kind_again Kind.UT = refl
kind_again Kind.MO = refl
kind_again Kind.TM = refl
kind_again Kind.WD = refl

dates_equal : (a b : Dates) → same_dates a b ≡ true → a ≡ b
dates_equal a b h =
    let event = number_first a.event b.event _ h in
    let notice = number_first a.notice b.notice _ event.1 in
    let done = eqb-true a.done b.done notice.1 in
    λ i. record { event = event.0 i; notice = notice.0 i; done = done i }

option_dates_equal : (a b : Option Dates) → option_eq same_dates a b ≡ true → a ≡ b
option_dates_equal None None h = refl
option_dates_equal None (Some b) h = absurd (cc)
option_dates_equal (Some a) None h = absurd (cc)
option_dates_equal (Some a) (Some b) h = ap (λ dates. Some dates) (dates_equal a b h)

pub act_equal : (a b : ActRow) → same_act a b ≡ true → a ≡ b
act_equal a b h =
    let n = number_first a.n b.n _ h in
    let session = number_first a.session b.session _ n.1 in
    let clerk = number_first a.clerk b.clerk _ session.1 in
    let request = number_first a.request b.request _ clerk.1 in
    let day = number_first a.day b.day _ request.1 in
    let body = (bytes_eq-Decides a.body b.body).0 day.1 in
    λ i. record { n = n.0 i; session = session.0 i; clerk = clerk.0 i; request = request.0 i; day = day.0 i; body = body i }

pub record_equal : (a b : Record) → same_record a b ≡ true → a ≡ b
record_equal a b h =
    let parts = and_parts (same_heading a b) (same_figures a b) h in
    let household = number_first a.household b.household _ parts.0 in
    let number = number_first a.number b.number _ household.1 in
    let act = number_first a.act b.act _ number.1 in
    let kind = number_first (kind_number a.kind) (kind_number b.kind) _ act.1 in
    let same_kind : a.kind ≡ b.kind = sym (kind_again a.kind) ∙ ap kind_from kind.0 ∙ kind_again b.kind in
    let from = number_first a.from b.from _ kind.1 in
    let corrects = number_first a.corrects b.corrects _ from.1 in
    let unit = eqb-true a.unit b.unit corrects.1 in
    let persons = number_first a.persons b.persons _ parts.1 in
    let size = number_first a.size b.size _ persons.1 in
    let extremely = and_parts (beq a.extremely b.extremely) _ size.1 in
    let same_extremely = (booleans_Decides a.extremely b.extremely).0 extremely.0 in
    let annual = number_first a.annual b.annual _ extremely.1 in
    let adjusted = number_first a.adjusted b.adjusted _ annual.1 in
    let ttp = number_first a.ttp b.ttp _ adjusted.1 in
    let contract_rent = number_first a.rents.contract_rent b.rents.contract_rent _ ttp.1 in
    let utility = number_first a.rents.utility b.rents.utility _ contract_rent.1 in
    let assistance = number_first a.assistance b.assistance _ utility.1 in
    let dates = option_dates_equal a.dates b.dates assistance.1 in
    λ i. record {
      household = household.0 i;
      number = number.0 i;
      act = act.0 i;
      kind = same_kind i;
      from = from.0 i;
      corrects = corrects.0 i;
      unit = unit i;
      persons = persons.0 i;
      size = size.0 i;
      extremely = same_extremely i;
      annual = annual.0 i;
      adjusted = adjusted.0 i;
      ttp = ttp.0 i;
      rents = record { contract_rent = contract_rent.0 i; utility = utility.0 i };
      assistance = assistance.0 i;
      dates = dates i;
    }

pub line_equal : (a b : Line) → same_line a b ≡ true → a ≡ b
line_equal a b h =
    let act = number_first a.act b.act _ h in
    let place = number_first a.place b.place _ act.1 in
    let month = number_first a.month b.month _ place.1 in
    let household = number_first a.household b.household _ month.1 in
    let for_month = number_first a.for_month b.for_month _ household.1 in
    let first = number_first a.first b.first _ for_month.1 in
    let last = number_first a.last b.last _ first.1 in
    let old = number_first a.old b.old _ last.1 in
    let new = number_first a.new b.new _ old.1 in
    let amount = (Decides-int_eq a.amount b.amount).0 new.1 in
    λ i. record { act = act.0 i; place = place.0 i; month = month.0 i; household = household.0 i; for_month = for_month.0 i; first = first.0 i; last = last.0 i; old = old.0 i; new = new.0 i; amount = amount i }
