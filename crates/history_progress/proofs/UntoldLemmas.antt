-- Where bytes are untold an operation of a stream may complete as soon as it is taken: so none has to wait behind another.
use Rattle.std.proofs.Common.{◌≡◌, ◌⊎◌, ℕ, ◌<◌, ◌≤◌, nat_lt, Bool, true, false, cond, not, List, [], ◌∷◌, ◌++◌, Option, Some, None, drop, filter, find, length, map, set, inl, inr, refl, sym, ap, subst, ◌∙◌, arith}
use Rattle.std.specs.List.{All, slice_index_or}
use Rattle.std.proofs.lemmas.Bool.{cases_eq}
use Rattle.std.proofs.lemmas.Bool.Decides.{nat_tests}
use Rattle.std.proofs.lemmas.List.{append-nil, get_or-set_same, get_or-set_other, length-set}
use Rattle.std.proofs.lemmas.List.Elements.{All-from_get_or, All-head, All-tail}
use Rattle.asio_types.specs.declared.code.Code.{Code}
use Rattle.asio_types.specs.declared.code.Code.TheVariants as code
use Rattle.asio_types.specs.declared.event.Event.{Event}
use Rattle.asio_types.specs.declared.event.Event.TheVariants as event
use Rattle.session_script.specs.declared.act.Act.{Act}
use Rattle.session_script.specs.declared.act.Act.TheVariants as act
use Rattle.session_script.specs.Script.{ScriptModel, act_of}
use Rattle.session_script.specs.WellFormed.{FitsAct, IsWellFormed, header_of}
use Rattle.session_script.proofs.PlacingLemmas.{act_fits}
use Rattle.stream_rules.specs.Serving.{Reading, Writing, Some_bytes, All_bytes, Until, Some_of, All_of}
use Rattle.stream_rules.specs.declared.queue.Completion.{Completion}
use Rattle.history_rules.specs.Bounds.{AllAhead}
use Rattle.history_rules.specs.Legal.{MayHappen, after_event}
use Rattle.history_rules.specs.Performing.{bad, connected, emitted, emitted_to, is_of, is_reached, is_wait_of, new_pending, one_of_stream_cancelled, one_wait_cancelled, operation_cancelled, performed_act, performed_by, queues_at, read_accepted, shut_at, wait_accepted, with_due, with_queues, with_taken, write_accepted}
use Rattle.history_rules.specs.Requests.{MayTake, disconnected, reactor_after_done, slot_in, told_off, turn_begun}
use Rattle.history_rules.specs.Rounds.{IsDrained, IsEmptied}
use Rattle.history_rules.specs.Settling.{expiry_of, is_due, settled, sorted_by, waited}
use Rattle.history_rules.specs.State.{ReactorHalf, State, StreamQueues, first_state, no_queues}
use Rattle.history_rules.specs.Untold.{MayGiveRead, MayGiveUntold, MayGiveWrite, gone, head_of, may_give_read, may_give_write, read_gone, write_gone}
use Rattle.history_rules.specs.declared.wait.Wait.{Wait}
use Rattle.history_laws.proofs.FirstLemmas.{repeated}
use Rattle.history_laws.proofs.HeldLemmas.{at_queues}
use Rattle.history_progress.proofs.GoesLemmas.{Goes}

-- no operation of a stream is pending
abbrev pub AreEmpty : ReactorHalf → Type 0
AreEmpty r = (k : ℕ) → IsEmptied (queues_at r k)

pub empty_drained : (r : ReactorHalf) → AreEmpty r → IsDrained r
empty_drained r empty = λ last. All-from_get_or IsEmptied r.queues no_queues (λ k within. empty k)

pub first_empty : (script : ScriptModel) → AreEmpty (first_state script false).reactor
first_empty script = λ k. subst IsEmptied (sym (repeated no_queues script.world.streams k)) (refl, refl)

-- one stream's queues change, and none is pending there
empty_set : (r t : ReactorHalf) (stream : ℕ) (new : StreamQueues) → IsEmptied new → t.queues ≡ set r.queues stream new →
    AreEmpty r → AreEmpty t
empty_set r t stream new is same empty = λ k.
    subst (λ (queues : List StreamQueues). IsEmptied (slice_index_or queues k no_queues)) (sym same)
    (at_queues (λ k. IsEmptied) r.queues stream new is empty k)

empty_if : (first second : ReactorHalf) (b : Bool) → AreEmpty first → AreEmpty second → AreEmpty (cond b first second)
empty_if first second true one two = one
empty_if first second false one two = two

empty_connected : (slot : Option ℕ) (op : ℕ) (t : ReactorHalf) → AreEmpty t → AreEmpty (connected slot op t)
empty_connected None op t empty = empty
empty_connected (Some slot) op t empty = empty

empty_one : (op stream : ℕ) (r : ReactorHalf) → AreEmpty r → AreEmpty (one_of_stream_cancelled op stream r)
empty_one op stream r empty =
    empty_set r (one_of_stream_cancelled op stream r) stream (record (queues_at r stream) {
      reads = filter (λ pending. not (is_of op pending)) (queues_at r stream).reads;
      writes = filter (λ pending. not (is_of op pending)) (queues_at r stream).writes;
    }) (
      ap (filter (λ pending. not (is_of op pending))) (empty stream).0,
      ap (filter (λ pending. not (is_of op pending))) (empty stream).1,
    ) refl empty

empty_cancelled : (given : Act) (op : ℕ) (r : ReactorHalf) → AreEmpty r → AreEmpty (operation_cancelled given op r)
empty_cancelled (act.Wait timer strand slot filter) op r empty = empty
empty_cancelled (act.ReadSome stream size strand slot filter) op r empty = empty_one op stream r empty
empty_cancelled (act.ReadAll stream size strand slot filter) op r empty = empty_one op stream r empty
empty_cancelled (act.Until stream delimiter max strand slot filter) op r empty = empty_one op stream r empty
empty_cancelled (act.WriteSome stream bytes strand slot filter) op r empty = empty_one op stream r empty
empty_cancelled (act.WriteAll stream bytes strand slot filter) op r empty = empty_one op stream r empty
empty_cancelled _ op r empty = empty

empty_emitted : (script : ScriptModel) (op : Option ℕ) (types : ℕ) (r : ReactorHalf) → AreEmpty r →
    AreEmpty (emitted script op types r)
empty_emitted script None types r empty = empty
empty_emitted script (Some op) types r empty = by_act (act_of script op)
  where
    by_act : (given : Option Act) → AreEmpty (emitted_to given types op r)
    by_act None = empty
    by_act (Some given) =
        empty_if (operation_cancelled given op r) r (is_reached given types) (empty_cancelled given op r empty) empty

empty_one_wait : (wait : Option Wait) (r : ReactorHalf) → AreEmpty r → AreEmpty (one_wait_cancelled wait r)
empty_one_wait None r empty = empty
empty_one_wait (Some wait) r empty = empty

empty_shut : (stream : ℕ) (r : ReactorHalf) → AreEmpty r → AreEmpty (shut_at stream r)
empty_shut stream r empty =
    empty_set r (shut_at stream r) stream (record { closed = true; reads = []; writes = [] }) (refl, refl) refl empty

empty_read : (stream : ℕ) (r : ReactorHalf) → AreEmpty r → AreEmpty (read_gone stream r)
empty_read stream r empty =
    empty_set r (read_gone stream r) stream (record (queues_at r stream) { reads = drop 1 (queues_at r stream).reads })
    (ap (drop 1) (empty stream).0, (empty stream).1) refl empty

empty_write : (stream : ℕ) (r : ReactorHalf) → AreEmpty r → AreEmpty (write_gone stream r)
empty_write stream r empty =
    empty_set r (write_gone stream r) stream (record (queues_at r stream) { writes = drop 1 (queues_at r stream).writes })
    ((empty stream).0, ap (drop 1) (empty stream).1) refl empty

-- where all waits are ahead none is due
none_due_by : (r : ReactorHalf) (waits : List Wait) → All (λ (wait : Wait). r.now < expiry_of r wait) waits →
    filter (is_due r) waits ≡ []
none_due_by r [] ahead = refl
none_due_by r (wait ∷ waits) ahead =
    let here : r.now < expiry_of r wait = All-head (λ (wait : Wait). r.now < expiry_of r wait) wait waits ahead in
    let test : is_due r wait ≡ false = grind (arith, nat_tests, here) in
    let rest = none_due_by r waits (All-tail (λ (wait : Wait). r.now < expiry_of r wait) wait waits ahead) in
    ap (λ b. cond b (wait ∷ filter (is_due r) waits) (filter (is_due r) waits)) test ∙ rest

pub more_than_none : (n : ℕ) → 1 ≤ n → nat_lt 0 n ≡ true
more_than_none n some = grind (arith, nat_tests, some)

-- a completion leaves none
empty_gone : (given : Option Act) (r : ReactorHalf) → AreEmpty r → AreEmpty (gone given r)
empty_gone (Some (act.ReadSome stream size strand slot filter)) r empty = empty_read stream r empty
empty_gone (Some (act.ReadAll stream size strand slot filter)) r empty = empty_read stream r empty
empty_gone (Some (act.Until stream delimiter max strand slot filter)) r empty = empty_read stream r empty
empty_gone (Some (act.WriteSome stream bytes strand slot filter)) r empty = empty_write stream r empty
empty_gone (Some (act.WriteAll stream bytes strand slot filter)) r empty = empty_write stream r empty
empty_gone _ r empty = empty

empty_done : (script : ScriptModel) (o : ℕ) (r : ReactorHalf) → AreEmpty r → AreEmpty (reactor_after_done script r o)
empty_done script o r empty =
    left (slot_in (act_of script o)) (record (told_off script o r r.due) { whole_turn = false }) (off r.due)
  where
    left : (slot : Option ℕ) (t : ReactorHalf) → AreEmpty t → AreEmpty (disconnected o slot t)
    left None t is = is
    left (Some slot) t is = is

    off : (due : List Completion) → AreEmpty (record (told_off script o r due) { whole_turn = false })
    off [] = empty_gone (act_of script o) r empty
    off (next ∷ due) = empty

-- a completion leaves a state without operations of streams
pub record Completes (script : ScriptModel) (told : Bool) (s : State) : Type 0 where
  pub goes : Goes script told s
  pub empty : AreEmpty (after_event script told s goes.next).reactor

module _ (script : ScriptModel) (well : IsWellFormed script) (s : State) (a : ℕ) (may : MayTake script s a)
    (ahead : AllAhead s.reactor) (empty : AreEmpty s.reactor) (size : length s.reactor.queues ≡ script.world.streams) where
  abbrev r : ReactorHalf
  r = s.reactor

  -- the state behind the take, by what performing the act leaves
  abbrev Taken : ReactorHalf → State
  Taken by = record { context = turn_begun s.context; reactor = settled false (with_taken a by) }

  abbrev Result : ReactorHalf → Type 0
  Result by = AreEmpty (Taken by).reactor ⊎ Completes script false (Taken by)

  -- nothing is due that the act doesn't make so
  due_none : r.due ++ map waited (sorted_by (expiry_of r) (filter (is_due r) r.waits)) ≡ []
  due_none =
      ap (λ waits. r.due ++ map waited (sorted_by (expiry_of r) waits)) (none_due_by r r.waits ahead)
      ∙ (append-nil r.due ∙ may.turn.told)

  connected_is : (slot : Option ℕ) (t : ReactorHalf) → connected slot a t ≡ record t { slots = (connected slot a t).slots }
  connected_is None t = refl
  connected_is (Some slot) t = refl

  left_empty : (slot : Option ℕ) (t : ReactorHalf) → AreEmpty t → AreEmpty (disconnected a slot t)
  left_empty None t is = is
  left_empty (Some slot) t is = is

  -- one operation of a stream is queued
  module _ (stream : ℕ) (within : stream < length r.queues) (given : Act) (is : act_of script a ≡ Some given)
      (one : StreamQueues) (slots : List (Option ℕ)) where
    abbrev queued : ReactorHalf
    queued = record (with_queues r stream one) { slots = slots }

    abbrev u : ReactorHalf
    u = (Taken queued).reactor

    queue_here : queues_at u stream ≡ one
    queue_here = get_or-set_same r.queues stream one no_queues within

    empty_twice : (two : StreamQueues) → IsEmptied two → (k : ℕ) →
        IsEmptied (slice_index_or (set (set r.queues stream one) stream two) k no_queues)
    empty_twice two is k = elim (cases_eq k stream) [
      | inl same ↦
          subst (λ (k : ℕ). IsEmptied (slice_index_or (set (set r.queues stream one) stream two) k no_queues)) (sym same)
          (subst IsEmptied
          (sym (get_or-set_same (set r.queues stream one) stream two no_queues
          (let long = length-set r.queues stream one in omega (arith, within, long)))) is)
      | inr other ↦
          subst IsEmptied (sym (get_or-set_other (set r.queues stream one) stream k two no_queues other))
          (subst IsEmptied (sym (get_or-set_other r.queues stream k one no_queues other)) (empty k))
    ]

    -- it may complete so, and leaves none
    completes_with : (of : Code) → MayGiveUntold u a (Some given) of 0 → AreEmpty (gone (Some given) u) → Completes script false (Taken queued)
    completes_with of gives leaves = record {
      goes = record {
        next = event.Done a of 0;
        own = refl;
        may = record {
          working = may.turn.working;
          next = inr (record {
            untold = refl;
            fixed = due_none;
            given = subst (λ act. MayGiveUntold u a act of 0) (sym is) gives;
          });
          turn = λ none. refl;
        };
      };
      empty =
          left_empty (slot_in (act_of script a)) (record (told_off script a u u.due) { whole_turn = false })
          (subst (λ (due : List Completion). AreEmpty (told_off script a u due)) (sym due_none)
          (subst (λ act. AreEmpty (gone act u)) (sym is) leaves));
    }

  abbrev ReadOne : ℕ → Reading → StreamQueues
  ReadOne stream reading =
      record (queues_at r stream) { reads = (queues_at r stream).reads ++ new_pending a r.accepted reading ∷ [] }

  abbrev WriteOne : ℕ → Writing → StreamQueues
  WriteOne stream writing =
      record (queues_at r stream) { writes = (queues_at r stream).writes ++ new_pending a r.accepted writing ∷ [] }

  -- a read is taken
  module _ (stream : ℕ) (within : stream < length r.queues) (given : Act) (is : act_of script a ≡ Some given)
      (reading : Reading) (slots : List (Option ℕ)) where
    abbrev v : ReactorHalf
    v = (Taken (record (with_queues r stream (ReadOne stream reading)) { slots = slots })).reactor

    read_here : queues_at v stream ≡ ReadOne stream reading
    read_here = queue_here stream within given is (ReadOne stream reading) slots

    read_may : may_give_read reading code.Eof 0 ≡ true → MayGiveRead v a stream reading code.Eof 0
    read_may allowed = record {
      head =
          ap (λ (queues : StreamQueues). head_of queues.reads) read_here
          ∙ ap (λ reads. head_of (reads ++ new_pending a r.accepted reading ∷ [])) (empty stream).0;
      ahead = omega arith;
      allowed = allowed;
    }

    read_leaves : AreEmpty (read_gone stream v)
    read_leaves =
        empty_twice stream within given is (ReadOne stream reading) slots
        (record (queues_at v stream) { reads = drop 1 (queues_at v stream).reads }) (
          ap (λ (queues : StreamQueues). drop 1 queues.reads) read_here
              ∙ ap (λ reads. drop 1 (reads ++ new_pending a r.accepted reading ∷ [])) (empty stream).0,
          ap (λ (queues : StreamQueues). queues.writes) read_here ∙ (empty stream).1,
        )

  -- a write is taken
  module _ (stream : ℕ) (within : stream < length r.queues) (given : Act) (is : act_of script a ≡ Some given)
      (writing : Writing) (slots : List (Option ℕ)) where
    abbrev w : ReactorHalf
    w = (Taken (record (with_queues r stream (WriteOne stream writing)) { slots = slots })).reactor

    write_here : queues_at w stream ≡ WriteOne stream writing
    write_here = queue_here stream within given is (WriteOne stream writing) slots

    write_may : may_give_write writing code.Broken 0 ≡ true → MayGiveWrite w a stream writing code.Broken 0
    write_may allowed = record {
      head =
          ap (λ (queues : StreamQueues). head_of queues.writes) write_here
          ∙ ap (λ writes. head_of (writes ++ new_pending a r.accepted writing ∷ [])) (empty stream).1;
      ahead = omega arith;
      allowed = allowed;
    }

    write_leaves : AreEmpty (write_gone stream w)
    write_leaves =
        empty_twice stream within given is (WriteOne stream writing) slots
        (record (queues_at w stream) { writes = drop 1 (queues_at w stream).writes }) (
          ap (λ (queues : StreamQueues). queues.reads) write_here ∙ (empty stream).0,
          ap (λ (queues : StreamQueues). drop 1 queues.writes) write_here
              ∙ ap (λ writes. drop 1 (writes ++ new_pending a r.accepted writing ∷ [])) (empty stream).1,
        )

  read_result : (stream : ℕ) (reading : Reading) (slot : Option ℕ) (given : Act) → act_of script a ≡ Some given →
      stream < length r.queues → may_give_read reading code.Eof 0 ≡ true →
      ((v : ReactorHalf) → MayGiveRead v a stream reading code.Eof 0 → MayGiveUntold v a (Some given) code.Eof 0) →
      ((v : ReactorHalf) → gone (Some given) v ≡ read_gone stream v) →
      Result (connected slot a (read_accepted a stream reading r))
  read_result stream reading slot given is within allowed gives leaves = by_closed (queues_at r stream).closed
    where
      by_closed : (closed : Bool) → Result (connected slot a (cond closed (with_due (bad a ∷ []) r)
          (with_queues r stream (ReadOne stream reading))))
      by_closed true = inl (empty_connected slot a (with_due (bad a ∷ []) r) empty)
      by_closed false =
          let slots : List (Option ℕ) = (connected slot a (with_queues r stream (ReadOne stream reading))).slots in
          let v : ReactorHalf = (Taken (record (with_queues r stream (ReadOne stream reading)) { slots = slots })).reactor in
          inr (subst (λ by. Completes script false (Taken by)) (sym (connected_is slot (with_queues r stream (ReadOne stream reading))))
          (completes_with stream within given is (ReadOne stream reading) slots code.Eof
          (gives v (read_may stream within given is reading slots allowed))
          (subst AreEmpty (sym (leaves v)) (read_leaves stream within given is reading slots))))

  write_result : (stream : ℕ) (writing : Writing) (slot : Option ℕ) (given : Act) → act_of script a ≡ Some given →
      stream < length r.queues → may_give_write writing code.Broken 0 ≡ true →
      ((w : ReactorHalf) → MayGiveWrite w a stream writing code.Broken 0 → MayGiveUntold w a (Some given) code.Broken 0) →
      ((w : ReactorHalf) → gone (Some given) w ≡ write_gone stream w) →
      Result (connected slot a (write_accepted a stream writing r))
  write_result stream writing slot given is within allowed gives leaves = by_closed (queues_at r stream).closed
    where
      by_closed : (closed : Bool) → Result (connected slot a (cond closed (with_due (bad a ∷ []) r)
          (with_queues r stream (WriteOne stream writing))))
      by_closed true = inl (empty_connected slot a (with_due (bad a ∷ []) r) empty)
      by_closed false =
          let slots : List (Option ℕ) = (connected slot a (with_queues r stream (WriteOne stream writing))).slots in
          let w : ReactorHalf = (Taken (record (with_queues r stream (WriteOne stream writing)) { slots = slots })).reactor in
          inr (subst (λ by. Completes script false (Taken by)) (sym (connected_is slot (with_queues r stream (WriteOne stream writing))))
          (completes_with stream within given is (WriteOne stream writing) slots code.Broken
          (gives w (write_may stream within given is writing slots allowed))
          (subst AreEmpty (sym (leaves w)) (write_leaves stream within given is writing slots))))

  by_act : (given : Act) → act_of script a ≡ Some given → FitsAct (header_of script) given →
      Result (performed_act script a given r)
  by_act (act.Wait timer strand slot filter) is fits = inl (empty_connected slot a (wait_accepted a timer r) empty)
  by_act (act.ReadSome stream most strand slot filter) is fits =
      read_result stream (Some_bytes most) slot (act.ReadSome stream most strand slot filter) is (omega (arith, fits.0, size))
      refl (λ v may. may) (λ v. refl)
  by_act (act.ReadAll stream all strand slot filter) is fits =
      read_result stream (All_bytes all) slot (act.ReadAll stream all strand slot filter) is (omega (arith, fits.0, size))
      (more_than_none all fits.1.0) (λ v may. may) (λ v. refl)
  by_act (act.Until stream delimiter max strand slot filter) is fits =
      read_result stream (Until delimiter max) slot (act.Until stream delimiter max strand slot filter) is
      (omega (arith, fits.0, size)) refl (λ v may. may) (λ v. refl)
  by_act (act.WriteSome stream bytes strand slot filter) is fits =
      write_result stream (Some_of bytes) slot (act.WriteSome stream bytes strand slot filter) is (omega (arith, fits.0, size))
      refl (λ w may. may) (λ w. refl)
  by_act (act.WriteAll stream bytes strand slot filter) is fits =
      write_result stream (All_of bytes) slot (act.WriteAll stream bytes strand slot filter) is (omega (arith, fits.0, size))
      (more_than_none (length bytes) fits.1.0) (λ w may. may) (λ w. refl)
  by_act (act.CancelOne timer) is fits = inl (empty_one_wait (find (is_wait_of timer) r.waits) r empty)
  by_act (act.Emit slot types) is fits = inl (empty_emitted script (slice_index_or r.slots slot None) types r empty)
  by_act (act.Close stream) is fits =
      inl (empty_if r (shut_at stream r) (queues_at r stream).closed empty (empty_shut stream r empty))
  by_act _ is fits = inl empty

  -- behind the take of an act no operation of a stream is pending, or the one that it is may complete
  pub taken_result : AreEmpty (after_event script false s (event.Take a)).reactor
      ⊎ Completes script false (after_event script false s (event.Take a))
  taken_result = by_found (act_of script a) refl
    where
      by_found : (found : Option Act) → act_of script a ≡ found → Result (performed_by script a found r)
      by_found None is = inl empty
      by_found (Some given) is = by_act given is (act_fits script a well given is)

-- each event leaves none, or the one that is taken may complete
untold_next : (script : ScriptModel) (well : IsWellFormed script) (s : State) → AllAhead s.reactor → AreEmpty s.reactor →
    length s.reactor.queues ≡ script.world.streams → (e : Event) → MayHappen script false s e →
    AreEmpty (after_event script false s e).reactor ⊎ Completes script false (after_event script false s e)
untold_next script well s ahead empty size (event.Take a) may = taken_result script well s a may ahead empty size
untold_next script well s ahead empty size (event.Done o given moved) may = inl (empty_done script o s.reactor empty)
untold_next script well s ahead empty size (event.Tick now) may = inl empty
untold_next script well s ahead empty size event.Last may = inl empty
untold_next script well s ahead empty size event.Fault may = inl empty
untold_next script well s ahead empty size (event.Stop (Some a)) may = inl empty
untold_next script well s ahead empty size (event.Stop None) may = inl empty
untold_next script well s ahead empty size _ may = inl empty

pub empty_next : (script : ScriptModel) (well : IsWellFormed script) (told : Bool) (s : State) → AllAhead s.reactor →
    AreEmpty s.reactor → length s.reactor.queues ≡ script.world.streams → (e : Event) → MayHappen script told s e →
    ((told ≡ true) ⊎ AreEmpty (after_event script told s e).reactor) ⊎ Completes script told (after_event script told s e)
empty_next script well true s ahead empty size e may = inl (inl refl)
empty_next script well false s ahead empty size e may = elim (untold_next script well s ahead empty size e may) [
  | inl none ↦ inl (inr none)
  | inr completes ↦ inr completes
]
