use Rattle.book_search.proofs.Words.{ap, option_copied, number_there, number_not_there, number_past}
use Rattle.book_search.proofs.Stretch.{never_falls}
use Rattle.book_search.proofs.by_act.record_of_act.Goals as goal

pub returns-then-made-n : goal.returns-then-made-n
returns-then-made-n c =
    number_there (λ x. x.act) _ _ _ (never_falls (λ x. x.act) _ c.requires) c.first_record.ensures.bound c.first_record.ensures.point _ c.item_at.ensures
    c.in-Some.made.now (ap option_copied c.in-Some.is) c.if-made-n.true

pub returns-else-made-n : goal.returns-else-made-n
returns-else-made-n c =
    number_not_there (λ x. x.act) _ _ _ (never_falls (λ x. x.act) _ c.requires) c.first_record.ensures.bound c.first_record.ensures.point _ c.item_at.ensures
    c.in-Some.made.now (ap option_copied c.in-Some.is) c.if-made-n.false

pub returns-in_default : goal.returns-in_default
returns-in_default c =
    number_past (λ x. x.act) _ _ _ (never_falls (λ x. x.act) _ c.requires) c.first_record.ensures.bound c.first_record.ensures.point _ c.item_at.ensures
    (ap option_copied c.in_default.is)
