-- A closed stream has no operations.
use Rattle.std.proofs.Common.{◌≡◌, ℕ, ◌+◌, ◌*◌, zero, suc, Bool, true, false, cond, not, List, [], ◌∷◌, ◌++◌, Option, Some, None, drop, filter, find, length, refl, sym, ap, subst, ◌∙◌}
use Rattle.std.specs.List.{slice_index_or}
use Rattle.std.proofs.lemmas.Bool.{cond_both}
use Rattle.asio_types.specs.declared.event.Event.{Event}
use Rattle.asio_types.specs.declared.event.Event.TheVariants as event
use Rattle.session_script.specs.declared.act.Act.{Act}
use Rattle.session_script.specs.declared.act.Act.TheVariants as act
use Rattle.session_script.specs.Script.{ScriptModel, act_of}
use Rattle.stream_rules.specs.declared.queue.Completion.{Completion}
use Rattle.stream_rules.specs.Queue.{reading_side, served_queue, writing_side}
use Rattle.stream_rules.specs.Serving.{Reading, Writing, Some_bytes, All_bytes, Until, Some_of, All_of}
use Rattle.stream_rules.specs.Stream.{Stream}
use Rattle.stream_rules.specs.World.{stream_at}
use Rattle.history_rules.specs.Legal.{after_event}
use Rattle.history_rules.specs.Performing.{bad, connected, emitted, emitted_to, is_of, is_reached, is_wait_of, new_pending, one_of_stream_cancelled, one_wait_cancelled, operation_cancelled, performed, performed_act, performed_by, queues_at, read_accepted, shut_at, wait_accepted, with_due, with_queues, write_accepted}
use Rattle.history_rules.specs.Requests.{disconnected, reactor_after_done, slot_in, told_off}
use Rattle.history_rules.specs.Settling.{served_at, served_below, served_stream, settled, with_waits_served}
use Rattle.history_rules.specs.State.{ReactorHalf, State, StreamQueues, first_reactor, no_queues}
use Rattle.history_rules.specs.Time.{at_last, at_time}
use Rattle.history_rules.specs.Untold.{gone}
use Rattle.history_rules.specs.declared.wait.Wait.{Wait}
use Rattle.history_laws.proofs.FirstLemmas.{repeated}
use Rattle.history_laws.proofs.HeldLemmas.{at_queues}

abbrev pub IsEmptied : StreamQueues → Type 0
IsEmptied queues = queues.closed ≡ true → (queues.reads ≡ []) × (queues.writes ≡ [])

abbrev pub IsShut : ReactorHalf → Type 0
IsShut r = (k : ℕ) → IsEmptied (queues_at r k)

shut_same : (r t : ReactorHalf) → t.queues ≡ r.queues → IsShut r → IsShut t
shut_same r t same shut = λ k.
    subst (λ (queues : List StreamQueues). IsEmptied (slice_index_or queues k no_queues)) (sym same) (shut k)

-- one stream's queues change
shut_by : (j : ℕ) (new : StreamQueues) (r t : ReactorHalf) → IsEmptied new → t.queues ≡ (with_queues r j new).queues →
    IsShut r → IsShut t
shut_by j new r t is same shut =
    shut_same (with_queues r j new) t same (at_queues (λ k. IsEmptied) r.queues j new is shut)

shut_if : (first second : ReactorHalf) (b : Bool) → IsShut first → IsShut second → IsShut (cond b first second)
shut_if first second true one two = one
shut_if first second false one two = two

shut_connected : (slot : Option ℕ) (op : ℕ) (t : ReactorHalf) → IsShut t → IsShut (connected slot op t)
shut_connected None op t shut = shut
shut_connected (Some slot) op t shut = shut

shut_read : (op j : ℕ) (reading : Reading) (r : ReactorHalf) → IsShut r → IsShut (read_accepted op j reading r)
shut_read op j reading r shut =
    let old = queues_at r j in
    let new : StreamQueues = record old { reads = old.reads ++ new_pending op r.accepted reading ∷ [] } in
    cond_both old.closed (with_due (bad op ∷ []) r) (with_queues r j new) IsShut (λ closed. shut)
    (λ opened.
    shut_by j new r (with_queues r j new) (λ closed. absurd (let wrong : true ≡ false = sym closed ∙ opened in cc)) refl shut)

shut_write : (op j : ℕ) (writing : Writing) (r : ReactorHalf) → IsShut r → IsShut (write_accepted op j writing r)
shut_write op j writing r shut =
    let old = queues_at r j in
    let new : StreamQueues = record old { writes = old.writes ++ new_pending op r.accepted writing ∷ [] } in
    cond_both old.closed (with_due (bad op ∷ []) r) (with_queues r j new) IsShut (λ closed. shut)
    (λ opened.
    shut_by j new r (with_queues r j new) (λ closed. absurd (let wrong : true ≡ false = sym closed ∙ opened in cc)) refl shut)

shut_one : (op j : ℕ) (r : ReactorHalf) → IsShut r → IsShut (one_of_stream_cancelled op j r)
shut_one op j r shut =
    let old = queues_at r j in
    shut_by j (record old {
      reads = filter (λ pending. not (is_of op pending)) old.reads;
      writes = filter (λ pending. not (is_of op pending)) old.writes;
    }) r (one_of_stream_cancelled op j r)
    (λ closed. (
      ap (filter (λ pending. not (is_of op pending))) (shut j closed).0,
      ap (filter (λ pending. not (is_of op pending))) (shut j closed).1,
    )) refl shut

shut_cancelled : (given : Act) (op : ℕ) (r : ReactorHalf) → IsShut r → IsShut (operation_cancelled given op r)
shut_cancelled (act.ReadSome stream size strand slot kinds) op r shut = shut_one op stream r shut
shut_cancelled (act.ReadAll stream size strand slot kinds) op r shut = shut_one op stream r shut
shut_cancelled (act.Until stream delimiter max strand slot kinds) op r shut = shut_one op stream r shut
shut_cancelled (act.WriteSome stream bytes strand slot kinds) op r shut = shut_one op stream r shut
shut_cancelled (act.WriteAll stream bytes strand slot kinds) op r shut = shut_one op stream r shut
shut_cancelled (act.Wait timer strand slot kinds) op r shut = shut
shut_cancelled _ op r shut = shut

shut_emitted : (script : ScriptModel) (op : Option ℕ) (types : ℕ) (r : ReactorHalf) → IsShut r →
    IsShut (emitted script op types r)
shut_emitted script None types r shut = shut
shut_emitted script (Some op) types r shut = by_act (act_of script op)
  where
    by_act : (given : Option Act) → IsShut (emitted_to given types op r)
    by_act None = shut
    by_act (Some given) =
        shut_if (operation_cancelled given op r) r (is_reached given types) (shut_cancelled given op r shut) shut

shut_one_wait : (wait : Option Wait) (r : ReactorHalf) → IsShut r → IsShut (one_wait_cancelled wait r)
shut_one_wait None r shut = shut
shut_one_wait (Some wait) r shut = shut

shut_performed : (script : ScriptModel) (a : ℕ) (given : Act) (r : ReactorHalf) → IsShut r →
    IsShut (performed_act script a given r)
shut_performed script a (act.Wait timer strand slot kinds) r shut = shut_connected slot a (wait_accepted a timer r) shut
shut_performed script a (act.ReadSome stream size strand slot kinds) r shut =
    shut_connected slot a (read_accepted a stream (Some_bytes size) r) (shut_read a stream (Some_bytes size) r shut)
shut_performed script a (act.ReadAll stream size strand slot kinds) r shut =
    shut_connected slot a (read_accepted a stream (All_bytes size) r) (shut_read a stream (All_bytes size) r shut)
shut_performed script a (act.Until stream delimiter max strand slot kinds) r shut =
    shut_connected slot a (read_accepted a stream (Until delimiter max) r) (shut_read a stream (Until delimiter max) r shut)
shut_performed script a (act.WriteSome stream bytes strand slot kinds) r shut =
    shut_connected slot a (write_accepted a stream (Some_of bytes) r) (shut_write a stream (Some_of bytes) r shut)
shut_performed script a (act.WriteAll stream bytes strand slot kinds) r shut =
    shut_connected slot a (write_accepted a stream (All_of bytes) r) (shut_write a stream (All_of bytes) r shut)
shut_performed script a (act.CancelOne timer) r shut = shut_one_wait (find (is_wait_of timer) r.waits) r shut
shut_performed script a (act.Emit slot types) r shut = shut_emitted script (slice_index_or r.slots slot None) types r shut
shut_performed script a (act.Close stream) r shut =
    shut_if r (shut_at stream r) (queues_at r stream).closed shut
    (shut_by stream (record { closed = true; reads = []; writes = [] }) r (shut_at stream r) (λ closed. (refl, refl)) refl shut)
shut_performed script a _ r shut = shut

shut_performed_by : (script : ScriptModel) (a : ℕ) (given : Option Act) (r : ReactorHalf) → IsShut r →
    IsShut (performed_by script a given r)
shut_performed_by script a None r shut = shut
shut_performed_by script a (Some given) r shut = shut_performed script a given r shut

-- what isn't there can't be served
shut_served : (j : ℕ) (r : ReactorHalf) → IsShut r → IsShut (served_at j r)
shut_served j r shut =
    let old = queues_at r j in
    let stream : Stream = (served_queue reading_side old.reads (stream_at r.streams j)).stream in
    shut_by j (served_stream (stream_at r.streams j) old).queues r (served_at j r)
    (λ closed. (
      ap (λ queue. (served_queue reading_side queue (stream_at r.streams j)).staying) (shut j closed).0,
      ap (λ queue. (served_queue writing_side queue stream).staying) (shut j closed).1,
    )) refl shut

shut_below : (k : ℕ) (r : ReactorHalf) → IsShut r → IsShut (served_below k r)
shut_below zero r shut = shut
shut_below (suc k) r shut = shut_served k (served_below k r) (shut_below k r shut)

shut_settled : (told : Bool) (r : ReactorHalf) → IsShut r → IsShut (settled told r)
shut_settled told r shut =
    let whole : ReactorHalf = record (with_waits_served r) { whole_turn = true; reached = 0 } in
    shut_if (served_below (length whole.queues) whole) whole told (shut_below (length whole.queues) whole shut) shut

shut_gone_read : (j reached : ℕ) (r : ReactorHalf) → IsShut r →
    IsShut (record (with_queues r j (record (queues_at r j) { reads = drop 1 (queues_at r j).reads })) { reached = reached })
shut_gone_read j reached r shut =
    let new : StreamQueues = record (queues_at r j) { reads = drop 1 (queues_at r j).reads } in
    shut_by j new r (record (with_queues r j new) { reached = reached })
    (λ closed. (ap (drop 1) (shut j closed).0, (shut j closed).1)) refl shut

shut_gone_write : (j reached : ℕ) (r : ReactorHalf) → IsShut r →
    IsShut (record (with_queues r j (record (queues_at r j) { writes = drop 1 (queues_at r j).writes })) { reached = reached })
shut_gone_write j reached r shut =
    let new : StreamQueues = record (queues_at r j) { writes = drop 1 (queues_at r j).writes } in
    shut_by j new r (record (with_queues r j new) { reached = reached })
    (λ closed. ((shut j closed).0, ap (drop 1) (shut j closed).1)) refl shut

shut_gone : (given : Option Act) (r : ReactorHalf) → IsShut r → IsShut (gone given r)
shut_gone (Some (act.ReadSome stream size strand slot kinds)) r shut = shut_gone_read stream (2 * stream) r shut
shut_gone (Some (act.ReadAll stream size strand slot kinds)) r shut = shut_gone_read stream (2 * stream) r shut
shut_gone (Some (act.Until stream delimiter max strand slot kinds)) r shut = shut_gone_read stream (2 * stream) r shut
shut_gone (Some (act.WriteSome stream bytes strand slot kinds)) r shut = shut_gone_write stream (2 * stream + 1) r shut
shut_gone (Some (act.WriteAll stream bytes strand slot kinds)) r shut = shut_gone_write stream (2 * stream + 1) r shut
shut_gone _ r shut = shut

shut_told : (script : ScriptModel) (o : ℕ) (r : ReactorHalf) → IsShut r → IsShut (reactor_after_done script r o)
shut_told script o r shut =
    left (slot_in (act_of script o)) (record (told_off script o r r.due) { whole_turn = false }) (off r.due)
  where
    left : (slot : Option ℕ) (t : ReactorHalf) → IsShut t → IsShut (disconnected o slot t)
    left None t shut = shut
    left (Some slot) t shut = shut

    off : (due : List Completion) → IsShut (record (told_off script o r due) { whole_turn = false })
    off [] = shut_gone (act_of script o) r shut
    off (next ∷ due) = shut

-- each event keeps it
pub shut_after : (script : ScriptModel) (told : Bool) (s : State) (e : Event) → IsShut s.reactor →
    IsShut (after_event script told s e).reactor
shut_after script told s (event.Take a) shut =
    shut_settled told (performed script a s.reactor) (shut_performed_by script a (act_of script a) s.reactor shut)
shut_after script told s (event.Done o code size) shut = shut_told script o s.reactor shut
shut_after script told s (event.Tick now) shut = shut_settled told (at_time script told now s.reactor) shut
shut_after script told s event.Last shut = shut_settled told (at_last told s.reactor) shut
shut_after script told s event.Fault shut = shut
shut_after script told s (event.Stop (Some a)) shut = shut
shut_after script told s (event.Stop None) shut = shut
shut_after script told s _ shut = shut

pub first_shut : (script : ScriptModel) (told : Bool) → IsShut (first_reactor script told)
first_shut script told = λ k.
    subst IsEmptied (sym (repeated no_queues script.world.streams k)) (λ closed. (refl, refl))
