-- What is decided of a call where nothing is booked.
use Rattle.std.proofs.Common.{◌≡◌, ◌∙◌, sym, ap, refl, inl, inr, ℕ, [], ◌∷◌, ◌++◌}
use Rattle.std.proofs.lemmas.List.{append-nil}
use Rattle.atomic_table.specs.Table.{Me}
use Rattle.book_rows.specs.declared.rows.Batch.{Batch}
use Rattle.clerk_desk.specs.Below.office_answers.declared.reply.Reply.{Reply}
use Rattle.clerk_desk.specs.Below.office_step.{Step.Outcome, Step.appends}
use Rattle.clerk_desk.specs.Serving.{IsUnkeptReply, IsUnsentReply}
use Rattle.desk_history.specs.declared.views.{View.View, View.TheVariants.Holding}
use Rattle.desk_history.specs.{Moves.looked, Moves.unkept, Seen.holding_of}
use Rattle.shared_desk.specs.Deciding.{IsReplied, AreTries, Rests}

-- the keeper was sent nothing
module _ (outcome : Outcome) where
  replied_unsent : (reply : Reply) → IsUnsentReply outcome reply → IsReplied outcome reply × AreTries outcome [] reply
  replied_unsent (Reply.Accepted done) is = (is, refl)
  replied_unsent (Reply.Refused refusal) is = (is, refl)
  replied_unsent Reply.StoreFault is = absurd is
  replied_unsent Reply.NoMemory is = (tt, inl refl)

  pub rests_untried : (old new : Me (Unit {0}) View) (faults : ℕ) (reply : Reply) →
      new ≡ (Holding (looked (holding_of old.0) faults), []) → IsUnsentReply outcome reply → Rests outcome (holding_of old.0) (holding_of new.0) reply
  rests_untried old new faults reply is replied = record {
    list = ap (λ (me : Me (Unit {0}) View). (holding_of me.0).book.list) is;
    since = ap (λ (me : Me (Unit {0}) View). (holding_of me.0).since) is;
    replied = (replied_unsent reply replied).0;
    tries = [];
    tried = (replied_unsent reply replied).1;
    tries_since = ap (λ (me : Me (Unit {0}) View). (holding_of me.0).tries) is ∙ sym (append-nil (holding_of old.0).tries);
  }

-- the keeper was sent the rows that the office appends, and did not say it kept them
module _ (outcome : Outcome) (rows : Batch) (appends_them : outcome ≡ appends rows) where
  replied_unkept : (reply : Reply) → IsUnkeptReply reply → IsReplied outcome reply × AreTries outcome (rows ∷ []) reply
  replied_unkept (Reply.Accepted done) is = absurd is
  replied_unkept (Reply.Refused refusal) is = absurd is
  replied_unkept Reply.StoreFault is = (tt, record { rows = rows; appends_them = appends_them; one = refl })
  replied_unkept Reply.NoMemory is = (tt, inr (record { rows = rows; appends_them = appends_them; one = refl }))

  pub rests_tried : (old new : Me (Unit {0}) View) (batch : Batch) (faults : ℕ) (reply : Reply) → batch ≡ rows →
      new ≡ (Holding (unkept (holding_of old.0) batch faults), []) → IsUnkeptReply reply → Rests outcome (holding_of old.0) (holding_of new.0) reply
  rests_tried old new batch faults reply of is replied = record {
    list = ap (λ (me : Me (Unit {0}) View). (holding_of me.0).book.list) is;
    since = ap (λ (me : Me (Unit {0}) View). (holding_of me.0).since) is;
    replied = (replied_unkept reply replied).0;
    tries = rows ∷ [];
    tried = (replied_unkept reply replied).1;
    tries_since = ap (λ (me : Me (Unit {0}) View). (holding_of me.0).tries) is ∙ ap (λ (b : Batch). (holding_of old.0).tries ++ b ∷ []) of;
  }
