-- How replies are written in JSON.
use Rattle.std.specs.Prelude.{ℕ, List, codes}
use Rattle.serde_json.specs.{Data.Data, Data.null, Data.object, Data.member, Data.no_members, Written.compact_text}
use Rattle.json_form.specs.Written.{number_data, amount_data, day_data, month_data, bad_form_data}
use Rattle.office_answers.specs.{Below.office_step.declared.reply.Done.Done, Below.office_step.declared.reply.Made.Made, declared.reply.Reply.Reply}
use Rattle.reply_text.specs.Refusals.{refusal_data, failure_data}

-- what an act made
abbrev pub made_data : Made → Data
made_data Made.Nothing = null
made_data (Made.Unit unit) = object (member (codes "unit") (number_data unit) no_members)
made_data (Made.Applicant applicant) = object (member (codes "applicant") (number_data applicant) no_members)
made_data (Made.Closed amount lines month) =
    object (member (codes "amount") (amount_data amount) (member (codes "lines") (number_data lines) (member (codes "month") (month_data month) no_members)))
made_data (Made.Certified assistance household target reimbursement tenant_rent ttp) = object (
    member (codes "assistance") (number_data assistance) (
    member (codes "household") (number_data household) (
    member (codes "record") (number_data target) (
    member (codes "reimbursement") (number_data reimbursement) (
    member (codes "tenant_rent") (number_data tenant_rent) (
    member (codes "ttp") (number_data ttp) no_members))))))

-- an act that was accepted
abbrev pub done_data : Done → Data
done_data done =
    object (member (codes "act") (number_data done.act) (member (codes "day") (day_data done.day) (member (codes "made") (made_data done.made) no_members)))

abbrev pub reply_data : Reply → Data
reply_data (Reply.Accepted done) = done_data done
reply_data (Reply.Refused why) = refusal_data why
reply_data Reply.StoreFault = failure_data (codes "Store")
reply_data Reply.NoMemory = failure_data (codes "NoMemory")

-- the text of a reply
abbrev pub reply_text : Reply → List ℕ
reply_text told = compact_text (reply_data told)

-- the text that tells the first place that isn't of the form
abbrev pub bad_form_text : List ℕ → List ℕ
bad_form_text path = compact_text (bad_form_data path)
