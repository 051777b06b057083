-- What keeps streams as they are kept, where a stream changes, an operation comes, or one leaves.
use Rattle.std.proofs.Common.{◌≡◌, ◌≢◌, ℕ, zero, suc, ◌-◌, ◌*◌, ◌^◌, ◌<◌, ◌≤◌, Bool, true, false, not, List, [], ◌∷◌, ◌++◌, length, get_or, set, map, ap, sym, refl, subst, ◌∙◌, ⊎_elim, arith}
use Rattle.std.specs.Prelude.{◌==◌, cond, filter, IfNone, Option, Some, None, replicate, if◌then◌else◌}
use Rattle.std.proofs.lemmas.Bool.{cases_eq, cases_lt}
use Rattle.std.proofs.lemmas.List.{get_or-replicate, get_or-set_other, get_or-set_same, get_or_past, length-replicate, length-set, map-append}
use Rattle.io_rules.specs.declared.name.Name.{Name}
use Rattle.io_rules.specs.declared.operation.Side.{Side}
use Rattle.io_rules.specs.declared.operation.Side.TheVariants as side
use Rattle.io_rules.specs.Cancelling.{is_first, queue_of}
use Rattle.io_rules.specs.Completing.{others_than, search_left}
use Rattle.io_rules.specs.Serving.{first_of, with_queue}
use Rattle.io_rules.specs.State.{StreamState, new_stream, stream_at}
use Rattle.io_rules.proofs.StrandLemmas.{by_test}
use Rattle.io_queues.specs.Ordered.{AreApart, Each, Rises, in_order, put_all}
use Rattle.io_queues.specs.Queued.{found, found_in}
use Rattle.io_queues.proofs.FoundLemmas.{found-in_order, none-found}
use Rattle.io_queues.proofs.OrderLemmas.{apart-push, each-push, in_order-each, in_order-push, rises-push}
use Rattle.io_streams.specs.declared.pending.PendingOp.{PendingOp}
use Rattle.io_streams.specs.declared.stream.Stream.{Stream}
use Rattle.io_streams.specs.Kept.{IsOn, IsStreams, queue_number, state_of, states_of}
use Rattle.io_streams.specs.Pending.{Entry, IsIdle, StreamList, is_other, no_streams, number_of, op_of, opened, with_op, with_state}
use Rattle.io_streams.proofs.StatesLemmas.{AreThree, no_states, no_stream, number_within, side_is, state_is, states-length, states-queue, states-set, three}

-- streams as contracts see them
abbrev pub as_streams : {T : Type 0} → List Stream → List (List (Entry (PendingOp T))) → ℕ → StreamList T
as_streams streams queues room =
    record { streams = states_of streams queues; ops = in_order op_of queues; room = room }

no_queues : (T : Type 0) (n : ℕ) → in_order {X = PendingOp T} op_of (replicate n []) ≡ []
no_queues T zero = refl
no_queues T (suc n) = no_queues T n

empty_queue : (T : Type 0) (n k : ℕ) → get_or {A = List (Entry (PendingOp T))} (replicate n []) k [] ≡ []
empty_queue T n k = ⊎_elim
    (λ (lt : k < n). get_or-replicate n k [] [] lt)
    (λ (le : n ≤ k). get_or_past (replicate n []) k [] (subst (λ m. m ≤ k) (sym (length-replicate n [])) le))
    (cases_lt k n)

-- and none is seen
pub none_seen : (T : Type 0) (n m room : ℕ) → m ≡ n * 3 →
    as_streams {T = T} (replicate n no_stream) (replicate m []) room ≡ no_streams n room
none_seen T n m room is =
    ap (λ ss. record { streams = ss; ops = in_order op_of (replicate m []); room = room }) (no_states T n m is)
    ∙ ap (λ ops. record { streams = replicate n new_stream; ops = ops; room = room }) (no_queues T m)

-- no queue has an operation yet
pub none_kept : (T : Type 0) (n m : ℕ) → m ≡ n * 3 → n * 3 < 2 ^ 32 →
    IsStreams {T = T} (replicate n no_stream) (replicate m [])
none_kept T n m is lt =
    let many = length-replicate n no_stream in
    record {
      as_many = length-replicate m [] ∙ is ∙ ap (λ k. k * 3) (sym many);
      small = subst (λ k. k * 3 < 2 ^ 32) (sym many) lt;
      rises = subst (Rises op_of) (sym (no_queues T m)) tt;
      apart = subst AreApart (sym (no_queues T m)) tt;
      each_rises = λ k. subst (Rises op_of) (sym (empty_queue T m k)) tt;
      own = λ k. subst (Each (IsOn k)) (sym (empty_queue T m k)) tt;
    }

-- what a list holds once one element is written
at_set : {X : Type 0} (P : ℕ → X → Type 0) (xs : List X) (k : ℕ) (v d : X) → k < length xs → P k v →
    ((j : ℕ) → P j (get_or xs j d)) → (j : ℕ) → P j (get_or (set xs k v) j d)
at_set P xs k v d within new old j = ⊎_elim
    (λ (e : j ≡ k).
    subst (λ i. P i (get_or (set xs k v) i d)) (sym e) (subst (P k) (sym (get_or-set_same xs k v d within)) new))
    (λ (ne : j ≢ k). subst (P j) (sym (get_or-set_other xs k j v d ne)) (old j))
    (cases_eq j k)

-- what a function makes of all, if it leaves all but one
pub map_one : {X : Type 0} (f : X → X) (xs : List X) (k : ℕ) (d : X) → k < length xs →
    ((j : ℕ) → j ≢ k → f (get_or xs j d) ≡ get_or xs j d) → f d ≡ d → map f xs ≡ set xs k (f (get_or xs k d))
map_one f [] k d within elsewhere none = absurd (omega (arith, within))
map_one f (x ∷ xs) zero d within elsewhere none =
    ap (λ l. f x ∷ l) (map_none f xs d (λ j. elsewhere (suc j) (λ (e : suc j ≡ 0). omega (arith, e))))
  where
    map_none : {X : Type 0} (f : X → X) (xs : List X) (d : X) → ((j : ℕ) → f (get_or xs j d) ≡ get_or xs j d) →
        map f xs ≡ xs
    map_none f [] d elsewhere = refl
    map_none f (x ∷ xs) d elsewhere =
        ap (λ y. y ∷ map f xs) (elsewhere 0) ∙ ap (λ l. x ∷ l) (map_none f xs d (λ j. elsewhere (suc j)))
map_one f (x ∷ xs) (suc k) d within elsewhere none =
    ap (λ y. y ∷ map f xs) (elsewhere 0 (λ (e : 0 ≡ suc k). omega (arith, e)))
    ∙ ap (λ l. x ∷ l)
    (map_one f xs k d (omega (arith, within)) (λ j ne. elsewhere (suc j) (λ (e : suc j ≡ suc k). ne (omega (arith, e)))) none)

map_nil : {X Y : Type 0} (f : X → Y) (xs : List X) → map f xs ≡ [] → xs ≡ []
map_nil f [] is = refl
map_nil f (x ∷ xs) is = absurd (cc)

-- what passes a test of the numbers
pub filter-numbers : {T : Type 0} (op : ℕ) (q : List (Entry (PendingOp T))) →
    map number_of (filter (is_other op) q) ≡ others_than op (map number_of q)
filter-numbers op [] = refl
filter-numbers op (x ∷ q) =
    by_test (number_of x == op)
    (λ is. ap (λ b. map number_of (cond (not b) (x ∷ filter (is_other op) q) (filter (is_other op) q))) is
    ∙ filter-numbers op q
    ∙ sym (ap (λ b. cond (not b) (number_of x ∷ others_than op (map number_of q)) (others_than op (map number_of q))) is))
    (λ is. ap (λ b. map number_of (cond (not b) (x ∷ filter (is_other op) q) (filter (is_other op) q))) is
    ∙ ap (λ l. number_of x ∷ l) (filter-numbers op q)
    ∙ sym (ap (λ b. cond (not b) (number_of x ∷ others_than op (map number_of q)) (others_than op (map number_of q))) is))

-- an operation that leaves changes nothing else but what was searched
pub only_searched : (s : Side) (op : ℕ) (st : StreamState) →
    search_left s op st ≡ record st { searched = (search_left s op st).searched }
only_searched side.Write op st = refl
only_searched side.Connect op st = refl
only_searched side.Read op st = by_head (is_first (first_of side.Read st) op)
  where
    by_head : (b : Bool) → (if b then record st { searched = 0 } else st)
        ≡ record st { searched = (if b then record st { searched = 0 } else st).searched }
    by_head true = refl
    by_head false = refl

-- where nothing is pending each queue is empty
no_op : {X : Type 0} (xs : List X) → Each (λ x. ⊥) xs → xs ≡ []
no_op [] all = refl
no_op (x ∷ xs) all = absurd all.0

pub empty_queues : {T : Type 0} (queues : List (List (Entry (PendingOp T)))) → in_order op_of queues ≡ [] → (k : ℕ) →
    get_or queues k [] ≡ []
empty_queues queues none k =
    no_op (get_or queues k []) (in_order-each op_of (λ x. ⊥) queues k (subst (Each (λ x. ⊥)) (sym none) tt))

-- and where each queue is empty nothing is pending
pub all_empty : {T : Type 0} (queues : List (List (Entry (PendingOp T)))) → ((k : ℕ) → 0 ≤ k → get_or queues k [] ≡ []) →
    in_order op_of queues ≡ []
all_empty [] empty = refl
all_empty (q ∷ queues) empty =
    ap (λ l. put_all op_of l (in_order op_of queues)) (empty 0 (omega arith))
    ∙ all_empty queues (λ k le. empty (suc k) (omega arith))

pub if_none : {X : Type 0} (o : Option X) (P : Type 0) → P → IfNone o P
if_none None P is = is
if_none (Some x) P is = tt

module _ {T : Type 0} (ss : List Stream) (qs : List (List (Entry (PendingOp T)))) (kept : IsStreams ss qs) where
  pub all_three : AreThree ss qs
  all_three = three ss qs kept.as_many

  pub as_many_states : length (states_of ss qs) ≡ length ss
  as_many_states = states-length ss qs all_three

  -- a stream changes
  pub state_kept : (k : ℕ) (new : Stream) → IsStreams (set ss k new) qs
  state_kept k new =
      let long = length-set ss k new in
      record {
        as_many = kept.as_many ∙ ap (λ n. n * 3) (sym long);
        small = subst (λ n. n * 3 < 2 ^ 32) (sym long) kept.small;
        rises = kept.rises;
        apart = kept.apart;
        each_rises = kept.each_rises;
        own = kept.own;
      }

  pub change_seen : (f : StreamState → StreamState) (g : Stream → Stream) →
      ((s : Stream) (r w c : List (Entry (PendingOp T))) → state_of (g s) r w c ≡ f (state_of s r w c)) →
      (name : Name) (room : ℕ) →
      as_streams (set ss name.place (g (get_or ss name.place no_stream))) qs room
      ≡ with_state name (f (stream_at (states_of ss qs) name)) (as_streams ss qs room)
  change_seen f g both name room =
      ap (λ l. record { streams = l; ops = in_order op_of qs; room = room })
      (states-set ss qs name.place (g (get_or ss name.place no_stream)) all_three
      ∙ ap (set (states_of ss qs) name.place)
      (both (get_or ss name.place no_stream) _ _ _ ∙ ap f (sym (state_is ss qs name.place all_three))))

  -- no operation is on an idle side
  idle_none : (name : Name) → IsIdle (stream_at (states_of ss qs) name) → (s : Side) →
      get_or qs (queue_number name.place s) [] ≡ []
  idle_none name idle side.Read =
      map_nil number_of _ (sym (side_is ss qs name.place side.Read all_three) ∙ idle.reads)
  idle_none name idle side.Write =
      map_nil number_of _ (sym (side_is ss qs name.place side.Write all_three) ∙ idle.writes)
  idle_none name idle side.Connect =
      map_nil number_of _ (sym (side_is ss qs name.place side.Connect all_three) ∙ idle.connects)

  pub open_seen : (name : Name) (listener linked : Bool) (room : ℕ) → IsIdle (stream_at (states_of ss qs) name) →
      as_streams (set ss name.place (record no_stream { listener = listener; linked = linked })) qs room
      ≡ opened name listener linked (as_streams ss qs room)
  open_seen name listener linked room idle =
      let made : Stream = record no_stream { listener = listener; linked = linked } in
      ap (λ l. record { streams = l; ops = in_order op_of qs; room = room })
      (states-set ss qs name.place made all_three
      ∙ ap (λ q. set (states_of ss qs) name.place (state_of made q (get_or qs (queue_number name.place side.Write) [])
      (get_or qs (queue_number name.place side.Connect) []))) (idle_none name idle side.Read)
      ∙ ap (λ q. set (states_of ss qs) name.place (state_of made [] q
      (get_or qs (queue_number name.place side.Connect) []))) (idle_none name idle side.Write)
      ∙ ap (λ q. set (states_of ss qs) name.place (state_of made [] [] q)) (idle_none name idle side.Connect))

  pub queue_within : (k : ℕ) (s : Side) → k < length ss → queue_number k s < length qs
  queue_within k s lt =
      let within = number_within k (length ss) s lt in let many = kept.as_many in omega (arith, within, many)

  -- an operation comes
  module _ (w : Entry (PendingOp T)) (within : w.item.stream.place < length ss)
      (last : Each (λ other. number_of other < number_of w) (in_order op_of qs)) (free : found w.place qs ≡ None) where
    queue : ℕ
    queue = queue_number w.item.stream.place w.item.side

    more : List (Entry (PendingOp T))
    more = get_or qs (queue_number w.item.stream.place w.item.side) [] ++ w ∷ []

    pub free_place : found_in w.place (in_order op_of qs) ≡ None
    free_place = found-in_order op_of w.place qs kept.apart ∙ free

    in_queues : queue_number w.item.stream.place w.item.side < length qs
    in_queues = queue_within w.item.stream.place w.item.side within

    pushed : in_order op_of (set qs (queue_number w.item.stream.place w.item.side)
        (get_or qs (queue_number w.item.stream.place w.item.side) [] ++ w ∷ [])) ≡ in_order op_of qs ++ w ∷ []
    pushed = in_order-push op_of w qs (queue_number w.item.stream.place w.item.side) in_queues last

    pub accept_kept : IsStreams ss (set qs (queue_number w.item.stream.place w.item.side)
        (get_or qs (queue_number w.item.stream.place w.item.side) [] ++ w ∷ []))
    accept_kept =
        let k : ℕ = queue_number w.item.stream.place w.item.side in
        record {
          as_many = length-set qs k (get_or qs k [] ++ w ∷ []) ∙ kept.as_many;
          small = kept.small;
          rises = subst (Rises op_of) (sym pushed) (rises-push op_of (in_order op_of qs) w kept.rises last);
          apart =
              subst AreApart (sym pushed)
              (apart-push (in_order op_of qs) w kept.apart (none-found w.place (in_order op_of qs) free_place));
          each_rises =
              at_set (λ j q. Rises op_of q) qs k (get_or qs k [] ++ w ∷ []) [] in_queues
              (rises-push op_of (get_or qs k []) w (kept.each_rises k)
              (in_order-each op_of (λ other. number_of other < number_of w) qs k last))
              kept.each_rises;
          own =
              at_set (λ j q. Each (IsOn j) q) qs k (get_or qs k [] ++ w ∷ []) [] in_queues
              (each-push (IsOn k) (get_or qs k []) w (kept.own k) refl) kept.own;
        }

    pub accept_seen : (room : ℕ) →
        as_streams ss (set qs (queue_number w.item.stream.place w.item.side)
        (get_or qs (queue_number w.item.stream.place w.item.side) [] ++ w ∷ [])) (room - 1)
        ≡ with_op w (as_streams ss qs room)
    accept_seen room =
        let k : ℕ = queue_number w.item.stream.place w.item.side in
        let p : ℕ = w.item.stream.place in
        let st : StreamState = get_or (states_of ss qs) p new_stream in
        ap (λ l. record {
          streams = l;
          ops = in_order op_of (set qs k (get_or qs k [] ++ w ∷ []));
          room = room - 1;
        })
        (states-queue ss qs p w.item.side (get_or qs k [] ++ w ∷ []) all_three
        ∙ ap (λ l. set (states_of ss qs) p (with_queue w.item.side l st))
        (map-append number_of (get_or qs k []) (w ∷ [])
        ∙ ap (λ l. l ++ number_of w ∷ []) (sym (side_is ss qs p w.item.side all_three))))
        ∙ ap (λ l. record {
          streams = set (states_of ss qs) p (with_queue w.item.side (queue_of w.item.side st ++ number_of w ∷ []) st);
          ops = l;
          room = room - 1;
        }) pushed
