-- The body behind a head that was found.
use Rattle.std.proofs.Common.{◌≡◌, ℕ, ◌+◌, ◌<◌, ◌≤◌, inr, List, ◌++◌, length, drop, slice_range, refl, sym, ap, ◌∙◌, arith, length-append, length-drop}
use Rattle.std.specs.Prelude.{Ok, Err}
use Rattle.std.proofs.lemmas.List.Folds.{drop_split}
use Rattle.httparse.specs.Spans.{span_bytes}
use Rattle.http_heads.specs.{Looks.IsFoundIn, declared.fault.Fault.Fault, declared.look.FoundHead.FoundHead}
use Rattle.http_heads.proofs.Sizes.{end_small, judged_small}
use Rattle.http_messages.specs.{Incoming.BeginsMessage, Messages.IsMessage, Messages.IsRefused, Messages.IsUnfinished, declared.message.Message.Message}

-- a head and its body fit the room of an inbox
pub whole_fits : (bytes : List ℕ) (found : FoundHead) (count : ℕ) → IsFoundIn bytes found → found.body ≡ Ok count → found.end + count ≤ 32768
whole_fits bytes found count f is =
    omega (arith, end_small bytes found f, judged_small _ count (sym f.is.body ∙ is))

-- a body that isn't whole yet
pub part_body : (bytes : List ℕ) (found : FoundHead) (count : ℕ) → IsFoundIn bytes found → found.body ≡ Ok count
    → length bytes < found.end + count → IsUnfinished bytes
part_body bytes found count f is short = inr (record {
  head = f.head;
  after = drop found.end bytes;
  has = f.has;
  count = count;
  announced = sym f.is.body ∙ is;
  short = omega (arith, f.within, length-drop found.end bytes);
})

-- headers that are refused
pub refused_head : (bytes : List ℕ) (found : FoundHead) (why : Fault) → IsFoundIn bytes found → found.body ≡ Err why → IsRefused bytes why
refused_head bytes found why f is = inr (inr (record { head = f.head; after = drop found.end bytes; has = f.has; refused = sym f.is.body ∙ is }))

-- the parts of the head and the bytes of the body make the message
pub made : (bytes : List ℕ) (found : FoundHead) (count : ℕ) (message : Message) → IsFoundIn bytes found → found.body ≡ Ok count
    → found.end + count ≤ length bytes → message.method ≡ span_bytes bytes found.method → message.target ≡ span_bytes bytes found.target
    → message.body ≡ slice_range bytes found.end (found.end + count) → message.asks_close ≡ found.asks_close
    → IsMessage bytes message (drop (found.end + count) bytes)
made bytes found count message f is whole method target body close =
    let split : drop found.end bytes ≡ message.body ++ drop (found.end + count) bytes =
    drop_split bytes found.end (found.end + count) (omega arith) ∙ ap (λ (l : List ℕ). l ++ drop (found.end + count) bytes) (sym body) in
    let size : length message.body ≡ count =
    omega (arith, ap length split ∙ length-append message.body (drop (found.end + count) bytes), length-drop found.end bytes, length-drop (found.end + count) bytes) in
    record {
      head = f.head;
      after = drop found.end bytes;
      has = f.has;
      announced = sym f.is.body ∙ is ∙ ap Ok (sym size);
      splits = split;
      method = method ∙ f.is.method;
      target = target ∙ f.is.target;
      asks_close = close ∙ f.is.asks_close;
    }

-- a whole message is there, copied or not
pub begins_message : (bytes : List ℕ) (found : FoundHead) (count : ℕ) → IsFoundIn bytes found → found.body ≡ Ok count
    → found.end + count ≤ length bytes → BeginsMessage bytes
begins_message bytes found count f is whole = record { message = message; rest = drop (found.end + count) bytes; is = made bytes found count message f is whole refl refl refl refl }
  where
    message : Message
    message = record {
      method = span_bytes bytes found.method;
      target = span_bytes bytes found.target;
      body = slice_range bytes found.end (found.end + count);
      asks_close = found.asks_close;
    }
