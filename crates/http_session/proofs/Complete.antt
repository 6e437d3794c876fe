-- A session that wasn't broken off served all that its source held.
use Rattle.std.proofs.Common.{◌≡◌, ℕ, ◌≤◌, inl, inr, Option, None, Some, Bool, true, false, if◌then◌else◌, IfSome, List, [], ◌++◌, length, take, refl, sym, ap, ◌∙◌, subst, append-nil, arith, take_all, take_at}
use Rattle.std.specs.Io.KnownBytes.{Appends}
use Rattle.std.proofs.KnownBytes.{Appends-trans}
use Rattle.http_messages.specs.{Cutting.Cuts, Cutting.Ending, Cutting.between, Cutting.closed, Cutting.inside, Cutting.refused, declared.message.Message.Message}
use Rattle.http_messages.proofs.Cuttings.{cut_in_one_way_lem}
use Rattle.http_responses.specs.declared.body.Reply.{Reply}
use Rattle.http_session.specs.{Completeness.AnswersAll, Completeness.Completes, Completeness.comes_to_end, Completeness.end_at, Completeness.written_at, Replies.most, Replies.refusal_response, Replies.responses, Sessions.Ends, Sessions.Run, declared.end.SessionEnd.SessionEnd}
use Rattle.http_session.proofs.{Streams.goes_more, Whole.comes_between, Whole.comes_inside, Whole.comes_no_further, Whole.comes_to_close, Whole.comes_to_refusal, Whole.cuts_behind, Whole.cuts_more_closed, Whole.cuts_more_refused, Whole.read_all, Whole.read_front}

if_true : {A : Type 0} (test : Bool) (a b : A) → test ≡ true → (if test then a else b) ≡ a
if_true test a b is = ap (λ (t : Bool). if t then a else b) is

if_false : {A : Type 0} (test : Bool) (a b : A) → test ≡ false → (if test then a else b) ≡ b
if_false test a b is = ap (λ (t : Bool). if t then a else b) is

module _ {D : Type 0} (answers : D → Message → Reply → D → Type 0) (gives_up : D → Message → D → Type 0) (point : D → ℕ) where
  -- all messages were served, to their end
  to_end : (desk desk_now : D) (held held_now : Option (List ℕ)) (served : List Message) (at : Ending) (end : SessionEnd) (replies : List Reply)
      (messages : List Message) (ending : Ending) → (messages ≡ served) × (ending ≡ at) → length served ≤ most → comes_to_end served at ≡ true → end ≡ end_at at
      → Run answers desk served replies desk_now → Appends held held_now (responses 0 served replies ++ written_at at (point desk_now))
      → AnswersAll answers point desk desk_now held held_now messages ending end
  to_end desk desk_now held held_now served at end replies messages ending same few full is ran written =
      subst (λ (e : Ending). AnswersAll answers point desk desk_now held held_now messages e end) (sym same.1)
      (subst (λ (l : List Message). AnswersAll answers point desk desk_now held held_now l at end) (sym same.0) (record {
        ends = is ∙ sym (if_true (comes_to_end served at) (end_at at) SessionEnd.Spent full);
        replies = replies;
        ran = subst (λ (l : List Message). Run answers desk l replies desk_now) (sym first) ran;
        written = subst (λ (l : List ℕ). Appends held held_now l) (sym text) written;
      }))
    where
      first : take most served ≡ served
      first = take_all most served few

      text : responses 0 (take most served) replies ++ (if comes_to_end served at then written_at at (point desk_now) else [])
          ≡ responses 0 served replies ++ written_at at (point desk_now)
      text = ap (λ (l : List Message). responses 0 l replies ++ (if comes_to_end served at then written_at at (point desk_now) else [])) first
          ∙ ap (λ (l : List ℕ). responses 0 served replies ++ l) (if_true (comes_to_end served at) (written_at at (point desk_now)) [] full)

  -- as many were served as may be
  spent : (desk desk_now : D) (held held_now : Option (List ℕ)) (served others : List Message) (replies : List Reply) (messages : List Message) (ending : Ending)
      → messages ≡ served ++ others → length served ≡ most → comes_to_end (served ++ others) ending ≡ false → Run answers desk served replies desk_now
      → Appends held held_now (responses 0 served replies) → AnswersAll answers point desk desk_now held held_now messages ending SessionEnd.Spent
  spent desk desk_now held held_now served others replies messages ending same all past ran written =
      subst (λ (l : List Message). AnswersAll answers point desk desk_now held held_now l ending SessionEnd.Spent) (sym same) (record {
        ends = sym (if_false (comes_to_end (served ++ others) ending) (end_at ending) SessionEnd.Spent past);
        replies = replies;
        ran = subst (λ (l : List Message). Run answers desk l replies desk_now) (sym first) ran;
        written = subst (λ (l : List ℕ). Appends held held_now l) (sym text) written;
      })
    where
      first : take most (served ++ others) ≡ served
      first = take_at served others most all

      text : responses 0 (take most (served ++ others)) replies ++ (if comes_to_end (served ++ others) ending then written_at ending (point desk_now) else [])
          ≡ responses 0 served replies
      text = ap (λ (l : List Message). responses 0 l replies ++ (if comes_to_end (served ++ others) ending then written_at ending (point desk_now) else [])) first
          ∙ ap (λ (l : List ℕ). responses 0 served replies ++ l) (if_false (comes_to_end (served ++ others) ending) (written_at ending (point desk_now)) [] past)
          ∙ append-nil (responses 0 served replies)

  no_more : (held held_now : Option (List ℕ)) (text : List ℕ) → Appends held held_now text → Appends held held_now (text ++ [])
  no_more held held_now text written = subst (λ (l : List ℕ). Appends held held_now l) (sym (append-nil text)) written

  complete : (desk desk_now : D) (told : List ℕ) (left_now held held_now : Option (List ℕ)) (end : SessionEnd)
      → Ends answers gives_up point desk desk_now (Some told) left_now held held_now end → Completes answers point desk desk_now held held_now told end
  complete desk desk_now told left_now held held_now SessionEnd.Ended (inl (s, at_end)) = λ messages ending cuts whole.
      let is = subst (λ (l : List ℕ). Cuts l s.messages between) (sym (read_all told s.read left_now s.consumed at_end)) s.are.0 in
      to_end desk desk_now held held_now s.messages between SessionEnd.Ended s.replies messages ending
      (cut_in_one_way_lem told messages s.messages ending between cuts is) (omega (arith, s.are.1)) (comes_between s.messages s.are.1) refl s.ran
      (no_more held held_now (responses 0 s.messages s.replies) s.written)
  complete desk desk_now told left_now held held_now SessionEnd.Ended (inr s) = λ messages ending cuts whole.
      let front = read_front told s.read left_now s.consumed in
      let is = subst (λ (l : List ℕ). Cuts l s.messages closed) (sym front.1) (cuts_more_closed s.read front.0 s.messages s.are.0) in
      to_end desk desk_now held held_now s.messages closed SessionEnd.Ended s.replies messages ending
      (cut_in_one_way_lem told messages s.messages ending closed cuts is) s.are.1 (comes_to_close s.messages s.are.1) refl s.ran
      (no_more held held_now (responses 0 s.messages s.replies) s.written)
  complete desk desk_now told left_now held held_now SessionEnd.Cut (s, at_end) = λ messages ending cuts whole.
      let is = subst (λ (l : List ℕ). Cuts l s.messages inside) (sym (read_all told s.read left_now s.consumed at_end)) s.are.0 in
      to_end desk desk_now held held_now s.messages inside SessionEnd.Cut s.replies messages ending
      (cut_in_one_way_lem told messages s.messages ending inside cuts is) (omega (arith, s.are.1)) (comes_inside s.messages s.are.1) refl s.ran
      (no_more held held_now (responses 0 s.messages s.replies) s.written)
  complete desk desk_now told left_now held held_now (SessionEnd.Refused status) (why, which, held_mid, s, wrote) = λ messages ending cuts whole.
      let front = read_front told s.read left_now s.consumed in
      let is = subst (λ (l : List ℕ). Cuts l s.messages (refused why)) (sym front.1) (cuts_more_refused s.read front.0 why s.messages s.are.0) in
      to_end desk desk_now held held_now s.messages (refused why) (SessionEnd.Refused status) s.replies messages ending
      (cut_in_one_way_lem told messages s.messages ending (refused why) cuts is) (omega (arith, s.are.1)) (comes_to_refusal s.messages why s.are.1)
      (ap SessionEnd.Refused which) s.ran
      (Appends-trans held held_mid held_now (responses 0 s.messages s.replies) (refusal_response why (point desk_now)) s.written wrote)
  complete desk desk_now told left_now held held_now SessionEnd.Spent s = λ messages ending cuts whole.
      let front = read_front told s.read left_now s.consumed in
      let goes = goes_more s.read front.0 s.messages s.are.0 s.are.1 in
      let behind = cuts_behind (s.read ++ front.0) s.messages (s.are.0 ++ front.0) messages ending goes (subst (λ (l : List ℕ). Cuts l messages ending) front.1 cuts) in
      spent desk desk_now held held_now s.messages behind.0 s.replies messages ending behind.1 s.are.2
      (comes_no_further s.messages behind.0 (s.are.0 ++ front.0) ending s.are.2 behind.2) s.ran s.written
  complete desk desk_now told left_now held held_now SessionEnd.ReadFault ends = λ messages ending cuts whole. absurd (cc)
  complete desk desk_now told left_now held held_now SessionEnd.WriteFault ends = λ messages ending cuts whole. absurd (cc)
  complete desk desk_now told left_now held held_now SessionEnd.NoMemory ends = λ messages ending cuts whole. absurd (cc)

  pub completes : (desk desk_now : D) (left left_now held held_now : Option (List ℕ)) (end : SessionEnd)
      → Ends answers gives_up point desk desk_now left left_now held held_now end
      → IfSome left (λ told. Completes answers point desk desk_now held held_now told end)
  completes desk desk_now None left_now held held_now end ends = tt
  completes desk desk_now (Some told) left_now held held_now end ends = complete desk desk_now told left_now held held_now end ends
