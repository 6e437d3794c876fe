-- The one order of refusals: the number and the name of each.
use Rattle.std.specs.Prelude.{ℕ, List, codes}
use Rattle.office_step.specs.declared.refusal.Refusal.{Refusal}

abbrev pub number_and_name : Refusal → ℕ × List ℕ
number_and_name (Refusal.RequestReused act) = (1, codes "RequestReused")
number_and_name Refusal.NoPlan = (2, codes "NoPlan")
number_and_name (Refusal.PlanGiven act) = (3, codes "PlanGiven")
number_and_name (Refusal.BookFull acts) = (4, codes "BookFull")
number_and_name (Refusal.NoSuch what id) = (5, codes "NoSuch")
number_and_name (Refusal.Stale newest) = (6, codes "Stale")
number_and_name (Refusal.Unseen newest) = (7, codes "Unseen")
number_and_name (Refusal.FactsRule rule) = (8, codes "FactsRule")
number_and_name (Refusal.DayRange first last) = (9, codes "DayRange")
number_and_name (Refusal.NoRent group day) = (10, codes "NoRent")
number_and_name (Refusal.NoLimits day) = (11, codes "NoLimits")
number_and_name (Refusal.NotLive target) = (12, codes "NotLive")
number_and_name (Refusal.WrongDay right) = (13, codes "WrongDay")
number_and_name (Refusal.Disorder target) = (14, codes "Disorder")
number_and_name (Refusal.NameTaken unit) = (15, codes "NameTaken")
number_and_name (Refusal.SizeMisfit unit size) = (16, codes "SizeMisfit")
number_and_name (Refusal.UnitTaken household day) = (17, codes "UnitTaken")
number_and_name (Refusal.NotNext next) = (18, codes "NotNext")
number_and_name (Refusal.Ineligible limit annual) = (19, codes "Ineligible")
number_and_name (Refusal.NoAssistance ttp gross) = (20, codes "NoAssistance")
number_and_name (Refusal.WrongMonth next) = (21, codes "WrongMonth")
number_and_name (Refusal.RentDue household target day) = (22, codes "RentDue")
number_and_name (Refusal.Overdue household anniversary) = (23, codes "Overdue")
number_and_name (Refusal.LinesFull lines more) = (24, codes "LinesFull")

abbrev pub number_of : Refusal → ℕ
number_of why = (number_and_name why).0

abbrev pub name_of : Refusal → List ℕ
name_of why = (number_and_name why).1
