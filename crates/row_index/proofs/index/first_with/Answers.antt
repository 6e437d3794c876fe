use Rattle.row_index.proofs.{Words.ap, Words.option_copied, Points.number_there, Points.number_not_there, Points.number_past}
use Rattle.row_index.proofs.index.first_with.Goals as goal

pub returns-then-entry-key : goal.returns-then-entry-key
returns-then-entry-key c =
    number_there (λ e. e.key) _ _ _ c.requires c.first_from.ensures.bound c.first_from.ensures.point _ c.entry_at.ensures
    c.in-Some.entry.now (ap option_copied c.in-Some.is) c.if-entry-key.true

pub returns-else-entry-key : goal.returns-else-entry-key
returns-else-entry-key c =
    number_not_there (λ e. e.key) _ _ _ c.requires c.first_from.ensures.bound c.first_from.ensures.point _ c.entry_at.ensures
    c.in-Some.entry.now (ap option_copied c.in-Some.is) c.if-entry-key.false

pub returns-in_default : goal.returns-in_default
returns-in_default c =
    number_past (λ e. e.key) _ _ _ c.requires c.first_from.ensures.bound c.first_from.ensures.point _ c.entry_at.ensures
    (ap option_copied c.in_default.is)
