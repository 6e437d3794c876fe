-- The reply to an act by which somebody applied, by the acts of the applications.
use Rattle.office_laws.proofs.Words.{◌≡◌, ap, refl, ℕ, ◌<◌, arith, List, [], ◌∷◌, Option, Some, length, AllPairs, filter, nat_le, option_map, ActRow, Application, Act, act_of, acts_of, apply_in, application_by, applications_of, AreActs, AllPairs-filter_map, common_steps}
use Rattle.office_laws.proofs.{Replies.act_numbered, Reached.books_are_kept}
use Rattle.office_laws.proofs.at_hand.applicant_replies.Goals as goal

-- ---- how many there were

-- the application that an act brings
abbrev brought : Act → Option Application
brought act = option_map (application_by act.n) (apply_in act.command)

applications_up_to : (n : ℕ) (acts : List Act) →
    applications_of (filter (λ act. nat_le act.n n) acts) ≡ filter (λ application. nat_le application.act n) (applications_of acts)
applications_up_to n [] = refl
applications_up_to n (act ∷ acts) = grind (arith, common_steps, applications_up_to n acts)

pub returns-clause-count : goal.returns-clause-count
returns-clause-count c capacity book reached n = ap (length {A = Application}) (applications_up_to n (acts_of book.acts))

-- ---- their acts

acts_rise : (rows : List ActRow) → AreActs rows → AllPairs (λ act next. act.n < next.n) (acts_of rows)
acts_rise rows are =
    AllPairs-filter_map (λ row next. row.n < next.n) (λ act next. act.n < next.n) act_of
    (λ row next act later is comes by. omega (arith, by, act_numbered row act is, act_numbered next later comes)) rows
    (λ i j d before within. omega (arith, are.numbers i d (omega (arith, before, within)), are.numbers j d within))

application_of_act : (act : Act) (application : Application) → brought act ≡ Some application → act.n ≡ application.act
application_of_act act application is = grind (arith, common_steps, is)

pub returns-clause-rise : goal.returns-clause-rise
returns-clause-rise c capacity book reached =
    AllPairs-filter_map (λ act next. act.n < next.n) (λ application next. application.act < next.act) brought
    (λ act next application later is comes by. omega (arith, by, application_of_act act application is, application_of_act next later comes))
    (acts_of book.acts) (acts_rise book.acts (books_are_kept capacity book reached).acts)
