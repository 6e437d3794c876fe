-- What is kept of the eligible members of each record's family (24 CFR 5.520), in plain facts.
use Rattle.std.specs.Prelude.{◌≡◌, ℕ, List, [], ◌∷◌, ◌++◌, IfSome, Contains}
use Rattle.record_history.specs.declared.records.Record.{Record}
use Rattle.book_rows.specs.{declared.rows.Batch.Batch, declared.command.Command.Command, declared.household.HouseholdChange.HouseholdChange, Book.Book, Book.appended}
use Rattle.office_step.specs.{declared.call.Capacity.Capacity, Known.Known, Known.known_of, Known.own_in, Eligible.eligible_of_record, Step.IsAppended, Step.IsReached}
use Rattle.office_laws.specs.Certifies.{family_eligible, IsContinued}

-- as many as of the record that one continues which begins on the day
pub record AsManyAsOfContinued (known : Known) (own : List Record) (from number : ℕ) : Type 0 where
  pub held : Record
  pub continued : IsContinued own from held
  pub its : number ≡ eligible_of_record known.eligible held

-- how many there are of the record of a change: of facts as many as are eligible by these, of a gross rent change or a
-- transfer as many as of the record that it continues, and of other changes none
abbrev pub AreOfChange : Known → List Record → HouseholdChange → ℕ → Type 0
AreOfChange known own (HouseholdChange.Annual annual) number = number ≡ family_eligible annual.facts
AreOfChange known own (HouseholdChange.Interim interim) number = number ≡ family_eligible interim.facts
AreOfChange known own (HouseholdChange.Resume resume) number = number ≡ family_eligible resume.facts
AreOfChange known own (HouseholdChange.Correct correct) number = number ≡ family_eligible correct.facts
AreOfChange known own (HouseholdChange.Gross gross) number = AsManyAsOfContinued known own gross.from number
AreOfChange known own (HouseholdChange.Transfer transfer) number = AsManyAsOfContinued known own transfer.from number
AreOfChange known own _ number = number ≡ 0

-- and of the record of an act
abbrev pub AreOfAct : Known → Command → ℕ → Type 0
AreOfAct known (Command.Start start) number = number ≡ family_eligible start.facts
AreOfAct known (Command.Admit admit) number = number ≡ family_eligible admit.facts
AreOfAct known (Command.Household act) number = AreOfChange known (own_in known act.household) act.change number
AreOfAct known _ number = number ≡ 0

-- by an act there is one number more, which is that of its record; and each older record has the one that it had
pub record KeepsNumbers (before after : Known) (records : List Record) (rows : Batch) (asked : Command) : Type 0 where
  pub number : ℕ
  pub more : after.eligible ≡ before.eligible ++ number ∷ []
  pub are : AreOfAct before asked number
  pub its : IfSome rows.made (λ r. eligible_of_record after.eligible r ≡ number)
  pub stay : (r : Record) → Contains records r → eligible_of_record after.eligible r ≡ eligible_of_record before.eligible r

abbrev pub EligibleMembersAreKept : Type 0
EligibleMembersAreKept = (capacity : Capacity) (book : Book) (rows : Batch) → IsReached capacity book → (appends : IsAppended capacity book rows) →
    KeepsNumbers (known_of book) (known_of (appended book rows)) book.records rows appends.call.command
