use Rattle.std.proofs.Common.{subst}
use Rattle.shared_desk.proofs.opened.Desk.open.Goals as goal

pub desk_of-requires-clause-sound : goal.desk_of-requires-clause-sound
desk_of-requires-clause-sound g c =
    λ sure telling book holding after left.
    c.requires.sound sure (c.open_office.ensures.crash_told telling) book (c.open_office.ensures.kept book holding) after (c.open_office.ensures.crash telling after left)

pub desk_of-requires-clause-on : goal.desk_of-requires-clause-on
desk_of-requires-clause-on g c =
    λ is_well book telling.
    (let still = c.open_office.ensures.goes_on is_well book (c.requires.told_by book telling) in
    subst (g.K.Keeper.holds c.open_office.new.keeper) (c.in-Ok-open_office.ensures.told.holds_only book still) still)
