-- What a turn of the reactor leaves as it was.
use Rattle.std.proofs.Common.{◌≡◌, ℕ, zero, suc, Bool, true, false, cond, Option, Some, None, find, length, List, [], ◌∷◌, ◌++◌, refl, ◌∙◌}
use Rattle.std.specs.List.{slice_index_or}
use Rattle.session_script.specs.declared.act.Act.{Act}
use Rattle.session_script.specs.declared.act.Act.TheVariants as act
use Rattle.session_script.specs.Script.{ScriptModel, act_of}
use Rattle.stream_rules.specs.Serving.{Reading, Writing, Some_bytes, All_bytes, Until, Some_of, All_of}
use Rattle.history_rules.specs.Performing.{bad, connected, emitted, emitted_to, is_reached, is_wait_of, new_pending, one_wait_cancelled, operation_cancelled, performed_act, performed_by, queues_at, read_accepted, shut_at, wait_accepted, with_due, with_queues, write_accepted}
use Rattle.history_rules.specs.Requests.{disconnected, reactor_after_done, slot_in, told_off}
use Rattle.history_rules.specs.Settling.{served_at, served_below, settled, with_waits_served}
use Rattle.history_rules.specs.State.{ReactorHalf}
use Rattle.history_rules.specs.Untold.{gone}
use Rattle.history_rules.specs.declared.wait.Wait.{Wait}
use Rattle.stream_rules.specs.declared.queue.Completion.{Completion}

-- what was taken, the time, and whether the last point has passed or the reactor failed
pub record StaysBut (r t : ReactorHalf) : Type 0 where
  pub taken : t.taken ≡ r.taken
  pub now : t.now ≡ r.now
  pub last : t.last ≡ r.last
  pub failed : t.failed ≡ r.failed

pub as_is : (r : ReactorHalf) → StaysBut r r
as_is r = record { taken = refl; now = refl; last = refl; failed = refl }

pub stays_both : (r t u : ReactorHalf) → StaysBut r t → StaysBut t u → StaysBut r u
stays_both r t u first second = record {
  taken = second.taken ∙ first.taken;
  now = second.now ∙ first.now;
  last = second.last ∙ first.last;
  failed = second.failed ∙ first.failed;
}

stays_if : (r first second : ReactorHalf) (b : Bool) → StaysBut r first → StaysBut r second →
    StaysBut r (cond b first second)
stays_if r first second true one two = one
stays_if r first second false one two = two

stays_connected : (slot : Option ℕ) (op : ℕ) (r t : ReactorHalf) → StaysBut r t → StaysBut r (connected slot op t)
stays_connected None op r t stays = stays
stays_connected (Some slot) op r t stays =
    record { taken = stays.taken; now = stays.now; last = stays.last; failed = stays.failed }

stays_read : (op stream : ℕ) (reading : Reading) (r : ReactorHalf) → StaysBut r (read_accepted op stream reading r)
stays_read op stream reading r =
    let old = queues_at r stream in
    stays_if r (with_due (bad op ∷ []) r)
    (with_queues r stream (record old { reads = old.reads ++ new_pending op r.accepted reading ∷ [] })) old.closed
    (record { taken = refl; now = refl; last = refl; failed = refl })
    (record { taken = refl; now = refl; last = refl; failed = refl })

stays_write : (op stream : ℕ) (writing : Writing) (r : ReactorHalf) → StaysBut r (write_accepted op stream writing r)
stays_write op stream writing r =
    let old = queues_at r stream in
    stays_if r (with_due (bad op ∷ []) r)
    (with_queues r stream (record old { writes = old.writes ++ new_pending op r.accepted writing ∷ [] })) old.closed
    (record { taken = refl; now = refl; last = refl; failed = refl })
    (record { taken = refl; now = refl; last = refl; failed = refl })

stays_cancelled : (given : Act) (op : ℕ) (r : ReactorHalf) → StaysBut r (operation_cancelled given op r)
stays_cancelled (act.Wait timer strand slot filter) op r =
    record { taken = refl; now = refl; last = refl; failed = refl }
stays_cancelled (act.ReadSome stream size strand slot filter) op r =
    record { taken = refl; now = refl; last = refl; failed = refl }
stays_cancelled (act.ReadAll stream size strand slot filter) op r =
    record { taken = refl; now = refl; last = refl; failed = refl }
stays_cancelled (act.Until stream delimiter max strand slot filter) op r =
    record { taken = refl; now = refl; last = refl; failed = refl }
stays_cancelled (act.WriteSome stream bytes strand slot filter) op r =
    record { taken = refl; now = refl; last = refl; failed = refl }
stays_cancelled (act.WriteAll stream bytes strand slot filter) op r =
    record { taken = refl; now = refl; last = refl; failed = refl }
stays_cancelled _ op r = as_is r

stays_emitted : (script : ScriptModel) (op : Option ℕ) (types : ℕ) (r : ReactorHalf) →
    StaysBut r (emitted script op types r)
stays_emitted script None types r = as_is r
stays_emitted script (Some op) types r = by_act (act_of script op)
  where
    by_act : (given : Option Act) → StaysBut r (emitted_to given types op r)
    by_act None = as_is r
    by_act (Some given) =
        stays_if r (operation_cancelled given op r) r (is_reached given types) (stays_cancelled given op r) (as_is r)

stays_one_wait : (wait : Option Wait) (r : ReactorHalf) → StaysBut r (one_wait_cancelled wait r)
stays_one_wait None r = as_is r
stays_one_wait (Some wait) r = record { taken = refl; now = refl; last = refl; failed = refl }

stays_performed : (script : ScriptModel) (a : ℕ) (given : Act) (r : ReactorHalf) →
    StaysBut r (performed_act script a given r)
stays_performed script a (act.Wait timer strand slot filter) r =
    stays_connected slot a r (wait_accepted a timer r) (record { taken = refl; now = refl; last = refl; failed = refl })
stays_performed script a (act.ReadSome stream size strand slot filter) r =
    stays_connected slot a r (read_accepted a stream (Some_bytes size) r) (stays_read a stream (Some_bytes size) r)
stays_performed script a (act.ReadAll stream size strand slot filter) r =
    stays_connected slot a r (read_accepted a stream (All_bytes size) r) (stays_read a stream (All_bytes size) r)
stays_performed script a (act.Until stream delimiter max strand slot filter) r =
    stays_connected slot a r (read_accepted a stream (Until delimiter max) r) (stays_read a stream (Until delimiter max) r)
stays_performed script a (act.WriteSome stream bytes strand slot filter) r =
    stays_connected slot a r (write_accepted a stream (Some_of bytes) r) (stays_write a stream (Some_of bytes) r)
stays_performed script a (act.WriteAll stream bytes strand slot filter) r =
    stays_connected slot a r (write_accepted a stream (All_of bytes) r) (stays_write a stream (All_of bytes) r)
stays_performed script a (act.Expires timer after) r = record { taken = refl; now = refl; last = refl; failed = refl }
stays_performed script a (act.ExpiresAt timer at) r = record { taken = refl; now = refl; last = refl; failed = refl }
stays_performed script a (act.Cancel timer) r = record { taken = refl; now = refl; last = refl; failed = refl }
stays_performed script a (act.CancelOne timer) r = stays_one_wait (find (is_wait_of timer) r.waits) r
stays_performed script a (act.Emit slot types) r = stays_emitted script (slice_index_or r.slots slot None) types r
stays_performed script a (act.Close stream) r =
    stays_if r r (shut_at stream r) (queues_at r stream).closed (as_is r)
    (record { taken = refl; now = refl; last = refl; failed = refl })
stays_performed script a (act.Release guard) r = record { taken = refl; now = refl; last = refl; failed = refl }
stays_performed script a _ r = as_is r

pub stays_performed_by : (script : ScriptModel) (a : ℕ) (given : Option Act) (r : ReactorHalf) →
    StaysBut r (performed_by script a given r)
stays_performed_by script a None r = as_is r
stays_performed_by script a (Some given) r = stays_performed script a given r

stays_served : (k : ℕ) (r : ReactorHalf) → StaysBut r (served_below k r)
stays_served zero r = as_is r
stays_served (suc k) r =
    stays_both r (served_below k r) (served_at k (served_below k r)) (stays_served k r)
    (record { taken = refl; now = refl; last = refl; failed = refl })

pub stays_settled : (told : Bool) (r : ReactorHalf) → StaysBut r (settled told r)
stays_settled told r =
    let whole : ReactorHalf = record (with_waits_served r) { whole_turn = true; reached = 0 } in
    stays_both r whole (cond told (served_below (length whole.queues) whole) whole)
    (record { taken = refl; now = refl; last = refl; failed = refl })
    (stays_if whole (served_below (length whole.queues) whole) whole told (stays_served (length whole.queues) whole)
    (as_is whole))

stays_gone : (given : Option Act) (r : ReactorHalf) → StaysBut r (gone given r)
stays_gone (Some (act.ReadSome stream size strand slot filter)) r =
    record { taken = refl; now = refl; last = refl; failed = refl }
stays_gone (Some (act.ReadAll stream size strand slot filter)) r = record { taken = refl; now = refl; last = refl; failed = refl }
stays_gone (Some (act.Until stream delimiter max strand slot filter)) r =
    record { taken = refl; now = refl; last = refl; failed = refl }
stays_gone (Some (act.WriteSome stream bytes strand slot filter)) r =
    record { taken = refl; now = refl; last = refl; failed = refl }
stays_gone (Some (act.WriteAll stream bytes strand slot filter)) r =
    record { taken = refl; now = refl; last = refl; failed = refl }
stays_gone _ r = as_is r

stays_off : (script : ScriptModel) (o : ℕ) (r : ReactorHalf) (due : List Completion) →
    StaysBut r (told_off script o r due)
stays_off script o r [] = stays_gone (act_of script o) r
stays_off script o r (next ∷ due) = record { taken = refl; now = refl; last = refl; failed = refl }

stays_left : (o : ℕ) (slot : Option ℕ) (r : ReactorHalf) → StaysBut r (disconnected o slot r)
stays_left o None r = as_is r
stays_left o (Some slot) r = record { taken = refl; now = refl; last = refl; failed = refl }

pub stays_told : (script : ScriptModel) (o : ℕ) (r : ReactorHalf) → StaysBut r (reactor_after_done script r o)
stays_told script o r =
    let off : ReactorHalf = told_off script o r r.due in
    let more = stays_off script o r r.due in
    let whole : ReactorHalf = record off { whole_turn = false } in
    stays_both r whole (disconnected o (slot_in (act_of script o)) whole)
    (record { taken = more.taken; now = more.now; last = more.last; failed = more.failed })
    (stays_left o (slot_in (act_of script o)) whole)
