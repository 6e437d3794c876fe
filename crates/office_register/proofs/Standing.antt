-- What an accepted act comes to, since nothing stands against it.
use Rattle.office_register.proofs.Words.{◌≡◌, refl, sym, ℕ, ◌≤◌, ◌<◌, List, Option, Some, None, true, false, arith, All, length, ◌==◌, is_some, none-some, nat_tests, Record, UnitRow, unit_at, Applicant, is_listed, UnitAct, RentsAct, Command, is_fit, are_rents, Known, Passed, passed, IsAccepted, IsSound, common_steps, nat_le, option_map}
use Rattle.std.proofs.lemmas.List.Folds.{list_any_none}
use Rattle.days_core.specs.OfficeDays.{last_office_month}
use Rattle.book_rows.specs.declared.closings.CloseAct.{CloseAct}
use Rattle.office_refusals.specs.Below.office_step.{declared.refusal.Refusal.Refusal, Matter.matter_of, Refusals.refused_if, Against.wrong_month}
use Rattle.list_laws.proofs.Finds.{find_fails}

pub passes : {known : Known} {asked : Command} {made : Option Record} → (a : IsAccepted known asked made) → Passed known a.most a.today asked
passes {known} {asked} {made} a = passed known a.most a.today asked a.free

has_room : (held capacity : ℕ) → refused_if (nat_le capacity held) (Refusal.BookFull held) ≡ None → held < capacity
has_room held capacity none = grind (arith, nat_tests, common_steps, none)

pub few : {known : Known} {asked : Command} {made : Option Record} → (a : IsAccepted known asked made) → known.count < 100000
few {known} {asked} {made} a = omega (arith, has_room known.count a.most (passes a).book_full, a.few)

-- ---- single refusals

pub none_given : (act : Option ℕ) → option_map (λ (act : ℕ). Refusal.PlanGiven act) act ≡ None → act ≡ None
none_given None free = refl
none_given (Some act) free = absurd (none-some (Refusal.PlanGiven act) (sym free))

pub none_there : {A B : Type 0} (given : Option A) (there : Option B) → given ≡ None → is_some given ≡ is_some there → there ≡ None
none_there given there none same = grind (arith, common_steps, none, same)

pub rents_fit : (rents : RentsAct) → is_fit (Command.Rents rents) ≡ true → are_rents rents.rents ≡ true
rents_fit rents fit = grind (arith, common_steps)

pub bedrooms_fit : (unit : UnitAct) → is_fit (Command.Unit unit) ≡ true → unit.bedrooms ≤ 5
bedrooms_fit unit fit = grind (arith, common_steps)

-- the month that is closed next is one that an office closes
pub month_fits : (known : Known) (close : CloseAct) → IsSound known → wrong_month (matter_of known (Command.Close close)) ≡ None → close.month ≤ last_office_month
month_fits known close sound none = grind (arith, nat_tests, common_steps, sound.plan, sound.closing, none)

-- ---- what isn't there yet

pub no_unit_at : (units : List UnitRow) (number : ℕ) → length units < number → All (λ unit. unit.number ≤ length units) units → unit_at units number ≡ None
no_unit_at units number more by =
    find_fails (λ (unit : UnitRow). unit.number == number) units (λ k d within. (let small = by k d within in grind (arith, nat_tests)))

pub unlisted : (waiting : List Applicant) (number count : ℕ) → count < number → All (λ applicant. applicant.number ≤ count) waiting → is_listed waiting number ≡ false
unlisted waiting number count more by =
    list_any_none (λ (applicant : Applicant). applicant.number == number) waiting (λ k d within. (let small = by k d within in grind (arith, nat_tests)))
