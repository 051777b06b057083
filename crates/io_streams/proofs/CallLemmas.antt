-- Where the queues of a stream are, as calls ask for them.
use Rattle.std.proofs.Common.{◌≡◌, ◌≢◌, ℕ, ◌+◌, ◌*◌, ◌^◌, ◌<◌, ◌≤◌, Bool, true, false, List, [], ◌∷◌, length, get_or, map, ap, sym, refl, subst, ◌∙◌, arith}
use Rattle.std.specs.Prelude.{◌==◌, not, Option, Some, None, is_some, if◌then◌else◌}
use Rattle.io_rules.specs.declared.name.Name.{Name}
use Rattle.io_rules.specs.declared.operation.Side.{Side}
use Rattle.io_rules.specs.declared.operation.Side.TheVariants as side
use Rattle.io_rules.specs.Cancelling.{is_first}
use Rattle.io_rules.specs.Completing.{search_left}
use Rattle.io_rules.specs.Serving.{first_of, is_none_of}
use Rattle.io_rules.specs.State.{StreamState, stream_at}
use Rattle.io_rules.proofs.TotalLemmas.{same}
use Rattle.io_queues.specs.Queued.{place_first}
use Rattle.io_queues.proofs.FoundLemmas.{apart_test, some_same}
use Rattle.io_streams.specs.declared.pending.PendingOp.{PendingOp}
use Rattle.io_streams.specs.declared.stream.Stream.{Stream}
use Rattle.io_streams.specs.Kept.{IsStreams, queue_number, state_of, states_of}
use Rattle.io_streams.specs.Pending.{Entry, number_of}
use Rattle.io_streams.proofs.KeptLemmas.{all_three, as_many_states, queue_within}
use Rattle.io_streams.proofs.StatesLemmas.{no_stream, side_is, state_is}

none_first : {T : Type 0} (q : List (Entry (PendingOp T))) → is_some (place_first q) ≡ not (is_none_of (map number_of q))
none_first [] = refl
none_first (x ∷ q) = refl

module _ {T : Type 0} (ss : List Stream) (qs : List (List (Entry (PendingOp T)))) (kept : IsStreams ss qs)
    (name : Name) (within : name.place < length (states_of ss qs)) where
  pub there : name.place < length ss
  there = subst (λ n. name.place < n) (as_many_states ss qs kept) within

  pub fits : name.place * 3 + 3 ≤ 2 ^ 32
  fits = let lt = there in let small = kept.small in omega (arith, lt, small)

  pub queued : (s : Side) (n : ℕ) → n ≡ queue_number name.place s → n < length qs
  queued s n is = let lt = queue_within ss qs kept name.place s there in omega (arith, lt, is)

  pub connects_are : (o : Option ℕ) → o ≡ place_first (get_or qs (queue_number name.place side.Connect) []) →
      is_some o ≡ not (is_none_of (stream_at (states_of ss qs) name).connects)
  connects_are o is =
      ap is_some is ∙ none_first (get_or qs (queue_number name.place side.Connect) [])
      ∙ sym (ap (λ l. not (is_none_of l)) (side_is ss qs name.place side.Connect (all_three ss qs kept)))

  -- what is known of a stream
  pub known : {X : Type 0} (f : StreamState → X) (g : Stream → X) → ((s : Stream) (r w c : List (Entry (PendingOp T))) →
      g s ≡ f (state_of s r w c)) →
      g (get_or ss name.place no_stream) ≡ f (stream_at (states_of ss qs) name)
  known f g both =
      both (get_or ss name.place no_stream) _ _ _ ∙ ap f (sym (state_is ss qs name.place (all_three ss qs kept)))

-- what was searched, once an operation has left
module _ {T : Type 0} (streams : List StreamState) (it : PendingOp T) where
  searched_by : it.side ≡ side.Read → (b : Bool) →
      is_first (first_of side.Read (stream_at streams it.stream)) it.op ≡ b →
      (search_left it.side it.op (stream_at streams it.stream)).searched
      ≡ (if b then 0 else (stream_at streams it.stream).searched)
  searched_by is b test =
      ap (λ s. (search_left s it.op (stream_at streams it.stream)).searched) is
      ∙ ap (λ b. (if b then record (stream_at streams it.stream) { searched = 0 } else stream_at streams it.stream).searched) test
      ∙ branches b
    where
      branches : (b : Bool) →
          (if b then record (stream_at streams it.stream) { searched = 0 } else stream_at streams it.stream).searched
          ≡ (if b then 0 else (stream_at streams it.stream).searched)
      branches true = refl
      branches false = refl

  pub searched_first : it.side ≡ side.Read → (f : ℕ) → first_of side.Read (stream_at streams it.stream) ≡ Some f →
      f ≡ it.op → 0 ≡ (search_left it.side it.op (stream_at streams it.stream)).searched
  searched_first is f first same_op =
      sym (searched_by is true (ap (λ o. is_first o it.op) first ∙ ap (λ n. n == it.op) same_op ∙ same it.op))

  pub searched_behind : it.side ≡ side.Read → (f : ℕ) → first_of side.Read (stream_at streams it.stream) ≡ Some f →
      f ≢ it.op → (n : ℕ) → n ≡ (stream_at streams it.stream).searched →
      n ≡ (search_left it.side it.op (stream_at streams it.stream)).searched
  searched_behind is f first other n read =
      read ∙ sym (searched_by is false (ap (λ o. is_first o it.op) first ∙ apart_test f it.op other))

  pub searched_none : it.side ≡ side.Read → first_of side.Read (stream_at streams it.stream) ≡ None →
      (n : ℕ) → n ≡ (stream_at streams it.stream).searched →
      n ≡ (search_left it.side it.op (stream_at streams it.stream)).searched
  searched_none is none n read = read ∙ sym (searched_by is false (ap (λ o. is_first o it.op) none))

  pub searched_write : it.side ≡ side.Write → (n : ℕ) → n ≡ (stream_at streams it.stream).searched →
      n ≡ (search_left it.side it.op (stream_at streams it.stream)).searched
  searched_write is n read = read ∙ sym (ap (λ s. (search_left s it.op (stream_at streams it.stream)).searched) is)

  pub searched_connect : it.side ≡ side.Connect → (n : ℕ) → n ≡ (stream_at streams it.stream).searched →
      n ≡ (search_left it.side it.op (stream_at streams it.stream)).searched
  searched_connect is n read = read ∙ sym (ap (λ s. (search_left s it.op (stream_at streams it.stream)).searched) is)

-- of one operation what is of another that is the same
pub of_same : {T : Type 0} (P : PendingOp T → Type 0) (o : Option (PendingOp T)) (it : PendingOp T) → o ≡ Some it →
    P it → (op : PendingOp T) → o ≡ Some op → P op
of_same P o it found is op other = subst P (some_same it op (sym found ∙ other)) is
