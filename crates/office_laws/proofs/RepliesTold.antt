-- The reply to an act tells what its record certifies.
use Rattle.office_laws.proofs.Words.{◌≡◌, ◌∙◌, sym, ap, refl, subst, ◌==◌, arith, Option, Some, None, List, Contains, nat_tests, common_steps, option_map_or, find_first, Record, ActRow, Batch, Book, appended, Command, HouseholdChange, Capacity, Known, known_of, own_in, Made, Done, done_of, record_of, made_now, IsReached, reached_more}
use Rattle.std.specs.Prelude.{IsSomeAnd}
use Rattle.std.proofs.lemmas.List.Elements.{Contains-push}
use Rattle.office_step.specs.plain.Replies.{IsWithinItsRent, TellsRecord}
use Rattle.office_step.specs.Reply.{certified}
use Rattle.office_step.proofs.Exactly.Replies.{certified_is_plain}
use Rattle.office_laws.specs.{Certifies.CertifiesNothing, Certifies.ChangeCertifies, Certifies.CertifiesRightly, InPlace.book_before, InPlace.rows_by, InPlace.IsInPlace, Replies.RepliesTellRecords}
use Rattle.office_laws.proofs.{Inversion.accepted, Reached.books_are_kept, Replies.made_is, Replies.replies_stay, InPlace.acts_are_in_place, CertifiedActs.records_certify_rightly}

nothing_within : (r : Record) → CertifiesNothing r → IsWithinItsRent r
nothing_within r none = omega (arith, none.assistance)

change_within : (known : Known) (own : List Record) (change : HouseholdChange) (r : Record) → ChangeCertifies known own change r → IsWithinItsRent r
change_within known own (HouseholdChange.Annual annual) r is = is.2.certifies.within
change_within known own (HouseholdChange.Interim interim) r is = is.2.certifies.within
change_within known own (HouseholdChange.Resume resume) r is = is.2.certifies.within
change_within known own (HouseholdChange.Gross gross) r is = is.2.certifies.within
change_within known own (HouseholdChange.Correct correct) r is = is.1.certifies.within
change_within known own (HouseholdChange.Transfer transfer) r is = is.2.certifies.within
change_within known own (HouseholdChange.MoveOut move_out) r is = nothing_within r is.1
change_within known own (HouseholdChange.Terminate terminate) r is = nothing_within r is.1
change_within known own (HouseholdChange.Withdraw withdraw) r is = nothing_within r is.2

-- what is said of the record that is made
said_of : (made : Option Record) (r : Record) (P : Record → Type 0) → made ≡ Some r → IsSomeAnd made P → P r
said_of made r P is some = subst (λ (o : Option Record). IsSomeAnd o P) is some

-- the reply to an act that makes a record is by that record
module _ (known : Known) (rows : Batch) (r : Record) (makes : rows.made ≡ Some r) where
  tells : IsWithinItsRent r → TellsRecord r (option_map_or certified rows.made Made.Nothing)
  tells within = rw makes (certified_is_plain r within)

  none_made : {P : Type 0} → rows.made ≡ None → P
  none_made none = absurd (let both = sym none ∙ makes in cc)

  told_now : (asked : Command) → rows.made ≡ record_of known asked → CertifiesRightly known rows asked → TellsRecord r (made_now known rows asked)
  told_now (Command.Start start) made rightly = tells (said_of rows.made r _ makes rightly).3.certifies.within
  told_now (Command.Admit admit) made rightly = tells (said_of rows.made r _ makes rightly).3.certifies.within
  told_now (Command.Household act) made rightly = tells (change_within known (own_in known act.household) act.change r (said_of rows.made r _ makes rightly).1)
  told_now _ made rightly = none_made made

-- the record of an act is the one that names it
made_by_act : (capacity : Capacity) (book : Book) → IsReached capacity book → (row : ActRow) (r : Record) → Contains book.records r → r.act ≡ row.n →
    (rows_by book row).made ≡ Some r
made_by_act capacity book reached row r (k, within, same) is =
    find_first (λ (r : Record). r.act == row.n) book.records k r within (rw same (grind (arith, common_steps, nat_tests, is)))
    (λ i before. grind (arith, common_steps, nat_tests, same, is, (books_are_kept capacity book reached).made.records_rise i k r before within))
    ∙ ap (λ (r : Record). Some r) same

pub replies_tell_records : RepliesTellRecords
replies_tell_records capacity book reached row there r held is =
    let place : IsInPlace capacity book row = acts_are_in_place capacity book reached row there in
    let found : Book = book_before book row.n in
    let rows : Batch = rows_by book row in
    let asked : Command = place.appends.call.command in
    let stays : done_of book row ≡ done_of (appended found rows) row =
    replies_stay capacity (appended found rows) book (reached_more place.reached place.appends) place.later row (Contains-push found.acts row) in
    let now : (done_of (appended found rows) row).made ≡ made_now (known_of found) rows asked =
    rw place.appends.read (made_is capacity found rows place.reached place.appends asked refl) in
    subst (TellsRecord r) (sym (ap (λ (done : Done). done.made) stays ∙ now))
    (told_now (known_of found) rows r (made_by_act capacity book reached row r held is) asked (accepted capacity found rows place.appends).made
    (records_certify_rightly capacity found rows place.reached place.appends))
