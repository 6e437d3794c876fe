use Rattle.std.specs.Prelude.{All}
use Rattle.std.proofs.Common.{rules, ◌≡◌, ◌∙◌, ap, sym, subst, subst₂, ℕ}
use Rattle.book_rows.specs.Book.{Book}
use Rattle.desk_history.specs.{declared.views.BookView.BookView, declared.views.PassView.PassView, Rule.AreOfPasses, Seen.book_of}
use Rattle.clerk_desk.specs.Below.office_step.declared.call.Capacity.{Capacity}
use Rattle.shared_desk.proofs.Retired.{of_those_handed_out}
use Rattle.shared_desk.specs.{Deciding.IsLeftBy, Desk.HasItsOwn, History.capacity_of}
use Rattle.shared_desk.proofs.locked.Locked.finish.Goals as goal

pub returns : goal.returns
returns g c = λ start made fresh all.
    let there : c.args.self.book ≡ book_of c.self.inside.book.me.0 = search rules in (
      record {
        history = (book_of c.self.inside.book.me.0).list;
        legal = search rules;
        front = search rules;
        own = search rules;
        whole = search rules;
        kept = search rules;
        first = search rules;
        on = λ is_well was telling.
            subst (g.K.Keeper.holds c.self.inside.keeper) (sym c.into_tables.ensures.book) (c.self.invariant.2.on is_well was telling);
        tried = (book_of c.self.inside.book.me.0).tried;
        own_tries = search rules;
        of_passes = of_those_handed_out c.entries_are_those_of_the_number.ensures start made _ _ _ fresh all
            (subst (λ (next : ℕ). AreOfPasses next (book_of c.self.inside.book.me.0).tried) c.self.invariant.4 c.finish.ensures.passes)
            (subst (λ (book : BookView). All (HasItsOwn book.list book.tried) c.args.waiting.items) there c.retire_each.ensures.own);
        stopped = λ sure telling now holding after left.
            subst₂ (λ (most : Capacity) (tables : Book). IsLeftBy most tables (book_of c.self.inside.book.me.0).tried after)
            (c.self.invariant.2.capacity_is ∙ ap capacity_of (sym c.finish.ensures.start ∙ ap (λ (pass : PassView). pass.start) c.pass.view_is))
            (sym c.into_tables.ensures.book) (c.self.invariant.2.survives sure telling now holding after left);
      },
      ap (λ (book : BookView). book.list) (sym there),
      ap (λ (book : BookView). book.tried) (sym there),
    )
