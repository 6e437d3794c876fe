-- How refusals are written in JSON: the kind, the number in the one order, and the members that the kind has.
use Rattle.std.specs.Prelude.{ℕ, List, codes}
use Rattle.serde_json.specs.Data.{Data, string, object, Members, member, no_members, put}
use Rattle.json_form.specs.Written.{number_data, day_data, month_data, or_null, refused}
use Rattle.office_answers.specs.Below.office_step.{declared.refusal.Named.Named, declared.refusal.Refusal.Refusal, Numbers.number_of, Numbers.name_of}
use Rattle.wait_list.specs.declared.ask.Candidate.{Candidate}

-- what a number should have named
abbrev pub named_word : Named → List ℕ
named_word Named.Household = codes "household"
named_word Named.Applicant = codes "applicant"
named_word Named.Unit = codes "unit"
named_word Named.Record = codes "record"

-- who is next: an applicant or a household, by its number
abbrev pub candidate_data : Candidate → Data
candidate_data (Candidate.Applicant applicant) = object (member (codes "applicant") (number_data applicant) no_members)
candidate_data (Candidate.Household household) = object (member (codes "household") (number_data household) no_members)

abbrev pub one_member : List ℕ → Data → Members
one_member name d = member name d no_members

-- the members beside the kind and the number
abbrev pub refusal_members : Refusal → Members
refusal_members (Refusal.RequestReused act) = one_member (codes "act") (number_data act)
refusal_members Refusal.NoPlan = no_members
refusal_members (Refusal.PlanGiven act) = one_member (codes "act") (number_data act)
refusal_members (Refusal.BookFull acts) = one_member (codes "acts") (number_data acts)
refusal_members (Refusal.NoSuch what id) = put (codes "what") (string (named_word what)) (one_member (codes "id") (number_data id))
refusal_members (Refusal.Stale newest) = one_member (codes "newest") (number_data newest)
refusal_members (Refusal.Unseen newest) = one_member (codes "newest") (number_data newest)
refusal_members (Refusal.FactsRule rule) = one_member (codes "rule") (number_data rule)
refusal_members (Refusal.DayRange first last) = put (codes "last") (day_data last) (one_member (codes "first") (day_data first))
refusal_members (Refusal.NoRent group day) = put (codes "day") (day_data day) (one_member (codes "group") (number_data group))
refusal_members (Refusal.NoLimits day) = one_member (codes "day") (day_data day)
refusal_members (Refusal.NotLive target) = one_member (codes "record") (number_data target)
refusal_members (Refusal.WrongDay right) = one_member (codes "right") (or_null day_data right)
refusal_members (Refusal.Disorder target) = one_member (codes "record") (number_data target)
refusal_members (Refusal.NameTaken unit) = one_member (codes "unit") (number_data unit)
refusal_members (Refusal.SizeMisfit unit size) = put (codes "size") (number_data size) (one_member (codes "unit") (number_data unit))
refusal_members (Refusal.UnitTaken household day) = put (codes "day") (day_data day) (one_member (codes "household") (number_data household))
refusal_members (Refusal.NotNext next) = one_member (codes "next") (or_null candidate_data next)
refusal_members (Refusal.Ineligible limit annual) = put (codes "annual") (number_data annual) (one_member (codes "limit") (number_data limit))
refusal_members (Refusal.NoAssistance ttp gross) = put (codes "gross") (number_data gross) (one_member (codes "ttp") (number_data ttp))
refusal_members (Refusal.WrongMonth next) = one_member (codes "next") (or_null month_data next)
refusal_members (Refusal.RentDue household target day) = put (codes "day") (day_data day) (put (codes "record") (number_data target) (one_member (codes "household") (number_data household)))
refusal_members (Refusal.Overdue household anniversary) = put (codes "anniversary") (day_data anniversary) (one_member (codes "household") (number_data household))
refusal_members (Refusal.LinesFull lines more) = put (codes "more") (number_data more) (one_member (codes "lines") (number_data lines))

-- the kind, the number and the members, in the byte order of their names
abbrev pub refusal_data : Refusal → Data
refusal_data why = refused (object (put (codes "number") (number_data (number_of why)) (put (codes "kind") (string (name_of why)) (refusal_members why))))

-- a refusal that has a kind alone
abbrev pub failure_data : List ℕ → Data
failure_data word = refused (object (member (codes "kind") (string word) no_members))
