-- Each stream keeps its queues, turn by turn of the reactor.
use Rattle.std.proofs.Common.{◌≡◌, ℕ, zero, suc, Bool, true, false, cond, List, ◌∷◌, ◌++◌, Option, Some, None, get_or, length, refl, ◌∙◌, []}
use Rattle.std.specs.Prelude.{find}
use Rattle.std.proofs.Math.ListN.{length-set}
use Rattle.session_script.specs.declared.act.Act.{Act}
use Rattle.session_script.specs.declared.act.Act.TheVariants as act
use Rattle.session_script.specs.Script.{ScriptModel, act_of}
use Rattle.stream_rules.specs.declared.queue.Completion.{Completion}
use Rattle.stream_rules.specs.Serving.{All_bytes, All_of, Reading, Some_bytes, Some_of, Until, Writing}
use Rattle.stream_rules.specs.World.{stream_at}
use Rattle.history_rules.specs.Performing.{bad, connected, emitted, emitted_to, is_reached, is_wait_of, new_pending, one_of_stream_cancelled, one_wait_cancelled, operation_cancelled, performed, performed_act, performed_by, queues_at, read_accepted, shut_at, with_due, with_queues, write_accepted}
use Rattle.history_rules.specs.Requests.{disconnected, reactor_after_done, reactor_after_take, slot_in, told_off}
use Rattle.history_rules.specs.Settling.{served_below, served_stream, settled, with_streams_served, with_waits_served}
use Rattle.history_rules.specs.State.{ReactorHalf, StreamQueues}
use Rattle.history_rules.specs.Time.{at_last, at_time, reactor_after_last, reactor_after_tick}
use Rattle.history_rules.specs.Untold.{gone}

below-size : (n : ℕ) (r : ReactorHalf) → length (served_below n r).queues ≡ length r.queues
below-size zero r = refl
below-size (suc n) r =
    let before = served_below n r in
    length-set before.queues n (served_stream (stream_at before.streams n) (queues_at before n)).queues ∙ below-size n r

streams-size : (told : Bool) (r : ReactorHalf) → length (with_streams_served told r).queues ≡ length r.queues
streams-size true r = below-size (length r.queues) r
streams-size false r = refl

settled-size : (told : Bool) (r : ReactorHalf) → length (settled told r).queues ≡ length r.queues
settled-size told r = streams-size told (record (with_waits_served r) { whole_turn = true; reached = 0 })

connected-size : (slot : Option ℕ) (op : ℕ) (r : ReactorHalf) → length (connected slot op r).queues ≡ length r.queues
connected-size None op r = refl
connected-size (Some slot) op r = refl

if-size : (b : Bool) (r : ReactorHalf) (done : List Completion) (stream : ℕ) (new : StreamQueues) →
    length (cond b (with_due done r) (with_queues r stream new)).queues ≡ length r.queues
if-size true r done stream new = refl
if-size false r done stream new = length-set r.queues stream new

read-size : (op stream : ℕ) (reading : Reading) (r : ReactorHalf) →
    length (read_accepted op stream reading r).queues ≡ length r.queues
read-size op stream reading r =
    let old = queues_at r stream in
    if-size old.closed r (bad op ∷ []) stream (record old { reads = old.reads ++ new_pending op r.accepted reading ∷ [] })

write-size : (op stream : ℕ) (writing : Writing) (r : ReactorHalf) →
    length (write_accepted op stream writing r).queues ≡ length r.queues
write-size op stream writing r =
    let old = queues_at r stream in
    if-size old.closed r (bad op ∷ []) stream (record old { writes = old.writes ++ new_pending op r.accepted writing ∷ [] })

one-size : (op stream : ℕ) (r : ReactorHalf) → length (one_of_stream_cancelled op stream r).queues ≡ length r.queues
one-size op stream r = simp length-set

cancelled-size : (given : Act) (op : ℕ) (r : ReactorHalf) →
    length (operation_cancelled given op r).queues ≡ length r.queues
cancelled-size (act.Wait timer strand slot filter) op r = refl
cancelled-size (act.ReadSome stream size strand slot filter) op r = one-size op stream r
cancelled-size (act.ReadAll stream size strand slot filter) op r = one-size op stream r
cancelled-size (act.Until stream delimiter max strand slot filter) op r = one-size op stream r
cancelled-size (act.WriteSome stream bytes strand slot filter) op r = one-size op stream r
cancelled-size (act.WriteAll stream bytes strand slot filter) op r = one-size op stream r
cancelled-size given op r = refl

reached-size : (b : Bool) (given : Act) (op : ℕ) (r : ReactorHalf) →
    length (cond b (operation_cancelled given op r) r).queues ≡ length r.queues
reached-size true given op r = cancelled-size given op r
reached-size false given op r = refl

emitted_to-size : (given : Option Act) (types op : ℕ) (r : ReactorHalf) →
    length (emitted_to given types op r).queues ≡ length r.queues
emitted_to-size None types op r = refl
emitted_to-size (Some given) types op r = reached-size (is_reached given types) given op r

emitted-size : (script : ScriptModel) (op : Option ℕ) (types : ℕ) (r : ReactorHalf) →
    length (emitted script op types r).queues ≡ length r.queues
emitted-size script None types r = refl
emitted-size script (Some op) types r = emitted_to-size (act_of script op) types op r

first-size : (timer : ℕ) (r : ReactorHalf) →
    length (one_wait_cancelled (find (is_wait_of timer) r.waits) r).queues ≡ length r.queues
first-size timer r =
    elim (find (is_wait_of timer) r.waits) as (λ wait. length (one_wait_cancelled wait r).queues ≡ length r.queues) [
      | None ↦ refl
      | Some wait ↦ refl
    ]

closed-size : (b : Bool) (stream : ℕ) (r : ReactorHalf) → length (cond b r (shut_at stream r)).queues ≡ length r.queues
closed-size true stream r = refl
closed-size false stream r = length-set r.queues stream (record { closed = true; reads = []; writes = [] })

act-size : (script : ScriptModel) (a : ℕ) (given : Act) (r : ReactorHalf) →
    length (performed_act script a given r).queues ≡ length r.queues
act-size script a (act.Wait timer strand slot filter) r = connected-size slot a _
act-size script a (act.ReadSome stream size strand slot filter) r =
    connected-size slot a (read_accepted a stream (Some_bytes size) r) ∙ read-size a stream (Some_bytes size) r
act-size script a (act.ReadAll stream size strand slot filter) r =
    connected-size slot a (read_accepted a stream (All_bytes size) r) ∙ read-size a stream (All_bytes size) r
act-size script a (act.Until stream delimiter max strand slot filter) r =
    connected-size slot a (read_accepted a stream (Until delimiter max) r) ∙ read-size a stream (Until delimiter max) r
act-size script a (act.WriteSome stream bytes strand slot filter) r =
    connected-size slot a (write_accepted a stream (Some_of bytes) r) ∙ write-size a stream (Some_of bytes) r
act-size script a (act.WriteAll stream bytes strand slot filter) r =
    connected-size slot a (write_accepted a stream (All_of bytes) r) ∙ write-size a stream (All_of bytes) r
act-size script a (act.Expires timer after) r = refl
act-size script a (act.ExpiresAt timer at) r = refl
act-size script a (act.Cancel timer) r = refl
act-size script a (act.CancelOne timer) r = first-size timer r
act-size script a (act.Emit slot types) r = emitted-size script (get_or r.slots slot None) types r
act-size script a (act.Close stream) r = closed-size (queues_at r stream).closed stream r
act-size script a (act.Release guard) r = refl
act-size script a (act.Post strand) r = refl
act-size script a (act.Defer strand) r = refl
act-size script a (act.Dispatch strand) r = refl
act-size script a act.Stop r = refl

by-size : (script : ScriptModel) (a : ℕ) (given : Option Act) (r : ReactorHalf) →
    length (performed_by script a given r).queues ≡ length r.queues
by-size script a None r = refl
by-size script a (Some given) r = act-size script a given r

pub take-size : (script : ScriptModel) (told : Bool) (r : ReactorHalf) (a : ℕ) →
    length (reactor_after_take script told r a).queues ≡ length r.queues
take-size script told r a = settled-size told (performed script a r) ∙ by-size script a (act_of script a) r

pub tick-size : (script : ScriptModel) (told : Bool) (r : ReactorHalf) (now : ℕ) →
    length (reactor_after_tick script told r now).queues ≡ length r.queues
tick-size script told r now = settled-size told (at_time script told now r)

pub last-size : (told : Bool) (r : ReactorHalf) → length (reactor_after_last told r).queues ≡ length r.queues
last-size told r = settled-size told (at_last told r)

gone-size : (given : Option Act) (r : ReactorHalf) → length (gone given r).queues ≡ length r.queues
gone-size (Some (act.ReadSome stream b c d e)) r = simp length-set
gone-size (Some (act.ReadAll stream b c d e)) r = simp length-set
gone-size (Some (act.Until stream b c d e f)) r = simp length-set
gone-size (Some (act.WriteSome stream b c d e)) r = simp length-set
gone-size (Some (act.WriteAll stream b c d e)) r = simp length-set
gone-size given r = refl

told_off-size : (script : ScriptModel) (o : ℕ) (r : ReactorHalf) (due : List Completion) →
    length (told_off script o r due).queues ≡ length r.queues
told_off-size script o r [] = gone-size (act_of script o) r
told_off-size script o r (head ∷ due) = refl

disconnected-size : (o : ℕ) (slot : Option ℕ) (r : ReactorHalf) →
    length (disconnected o slot r).queues ≡ length r.queues
disconnected-size o None r = refl
disconnected-size o (Some slot) r = refl

pub done-size : (script : ScriptModel) (r : ReactorHalf) (o : ℕ) →
    length (reactor_after_done script r o).queues ≡ length r.queues
done-size script r o =
    disconnected-size o (slot_in (act_of script o)) (record (told_off script o r r.due) { whole_turn = false })
    ∙ told_off-size script o r r.due
