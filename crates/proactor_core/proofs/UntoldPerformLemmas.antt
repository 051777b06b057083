-- An act that is taken beside a history with untold bytes.
use Rattle.std.proofs.Common.{◌≡◌, ℕ, ◌+◌, ◌≤◌, true, cond, nat_lt, List, [], ◌∷◌, ◌++◌, Option, Some, None, length, set, refl, sym, ap, subst, ◌∙◌, arith}
use Rattle.std.specs.List.{All, slice_get}
use Rattle.std.proofs.lemmas.Bool.Decides.{nat_tests}
use Rattle.std.proofs.lemmas.List.{map_push}
use Rattle.std.proofs.lemmas.List.Elements.{All-append, All-cons, All-nil}
use Rattle.asio_types.specs.declared.code.Code.TheVariants as code
use Rattle.session_script.specs.declared.act.Act.{Act}
use Rattle.session_script.specs.declared.act.Act.TheVariants as act
use Rattle.session_script.specs.Script.{Entry, ScriptModel, act_of}
use Rattle.session_script.specs.WellFormed.{header_of, FitsAct, IsWellFormed}
use Rattle.stream_rules.specs.Queue.{Pending}
use Rattle.stream_rules.specs.Serving.{All_bytes, All_of, Reading, Some_bytes, Some_of, Until, Writing}
use Rattle.history_rules.specs.Kinds.{reading_of, writing_of}
use Rattle.history_rules.specs.Performing.{bad, connected, expiry_set, guard_released, is_wait_of, new_pending, performed, performed_act, performed_by, queues_at, read_accepted, wait_accepted, with_due, with_queues, with_taken, write_accepted}
use Rattle.history_rules.specs.State.{ReactorHalf, StreamQueues}
use Rattle.history_rules.specs.Untold.{may_have_moved}
use Rattle.proactor_core.specs.Pending.{unmoved}
use Rattle.proactor_core.specs.Untold.{unmoved_queues, AreToldBy, IsKnown, MayAbort, UntoldPerforms}
use Rattle.proactor_core.proofs.UntoldCancelLemmas.{closed-alike, emitted-alike, one-wait-cancelled, waits-cancelled, MayAbortFresh}
use Rattle.proactor_core.proofs.UntoldLikeLemmas.{alike-choice, alike-due, alike-from, alike-kept, alike-queues, alike-to, at-half, IsAlike, IsGood}

is-more : (n : ℕ) → 1 ≤ n → nat_lt 0 n ≡ true
is-more n least = grind (arith, nat_tests)

fits-fresh : (script : ScriptModel) (given : Act) → FitsAct (header_of script) given →
    may_have_moved (Some given) code.Aborted 0 0 ≡ true
fits-fresh script (act.ReadAll stream size strand slot filter) fits = is-more size fits.1.0
fits-fresh script (act.WriteAll stream bytes strand slot filter) fits = is-more (length bytes) fits.1.0
fits-fresh script given fits = refl

-- an operation of a well-formed script moves at least a byte
pub well-formed-fresh : (script : ScriptModel) → IsWellFormed script → MayAbortFresh script
well-formed-fresh script formed op = at (slice_get script.acts op) refl
  where
    at : (entry : Option Entry) → slice_get script.acts op ≡ entry →
        may_have_moved (act_of script op) code.Aborted 0 0 ≡ true
    at None is = rw is refl
    at (Some entry) is = rw is (fits-fresh script entry.act (formed.acts.placed op entry is).fits)

bad-told : (script : ScriptModel) (op : ℕ) → AreToldBy script (bad op ∷ []) (bad op ∷ [])
bad-told script op = (record { is_op = refl; outcome = (refl, told (act_of script op)) }, tt)
  where
    told : (given : Option Act) → may_have_moved given code.Bad 0 0 ≡ true
    told None = refl
    told (Some (act.ReadAll stream size strand slot filter)) = refl
    told (Some (act.WriteAll stream bytes strand slot filter)) = refl
    told (Some given) = refl

module _ {Asks : Type 0} (P : Pending Asks → Type 0) where
  one-more : (queue : List (Pending Asks)) (new : Pending Asks) → P new → All P queue → All P (queue ++ new ∷ [])
  one-more queue new is all = All-append P queue (new ∷ []) all (All-cons P new [] is (All-nil P))

module _ (script : ScriptModel) (fresh : MayAbortFresh script) (mid half : ReactorHalf)
    (alike : IsAlike script mid half) (op stream : ℕ) where
  read-alike : (reading : Reading) → ((accepted : ℕ) →
      IsKnown script reading_of stream (new_pending op accepted reading)) →
      IsAlike script (read_accepted op stream reading mid) (read_accepted op stream reading half)
  read-alike reading known =
      let queues = queues_at mid stream in
      let rested = unmoved_queues queues in
      let good = alike.good stream in
      let accepted : half.accepted ≡ mid.accepted = ap (λ (h : ReactorHalf). h.accepted) alike.same in
      let pushed = λ (q : StreamQueues) (n : ℕ). let more : StreamQueues =
      record q { reads = q.reads ++ new_pending op n reading ∷ [] } in more in
      let by = λ (q : StreamQueues) (n : ℕ). cond q.closed (with_due (bad op ∷ []) half)
      (with_queues half stream (pushed q n)) in
      let same : read_accepted op stream reading half ≡ by rested mid.accepted =
      ap (λ q. by q half.accepted) (at-half script mid half alike stream) ∙ ap (by rested) accepted in
      let new = new_pending op mid.accepted reading in
      let is : pushed rested mid.accepted ≡ unmoved_queues (pushed queues mid.accepted) =
      ap (λ rs. let q : StreamQueues = record rested { reads = rs } in q)
      (sym (map_push unmoved queues.reads new)) in
      let more : IsGood script stream (pushed queues mid.accepted) = record {
        known = record {
          reads = one-more (IsKnown script reading_of stream) queues.reads new
              (known mid.accepted) good.known.reads;
          writes = good.known.writes;
        };
        aborts = record {
          reads = one-more (MayAbort script) queues.reads new (fresh op) good.aborts.reads;
          writes = good.aborts.writes;
        };
      } in
      subst (IsAlike script (read_accepted op stream reading mid)) (sym same)
      (alike-choice script queues.closed (with_due (bad op ∷ []) mid)
      (with_queues mid stream (pushed queues mid.accepted)) (with_due (bad op ∷ []) half)
      (with_queues half stream (pushed rested mid.accepted))
      (alike-due script mid half (bad op ∷ []) (bad op ∷ []) (bad-told script op) alike)
      (alike-queues script mid half stream (pushed queues mid.accepted) (pushed rested mid.accepted) is more alike))

  write-alike : (writing : Writing) → ((accepted : ℕ) →
      IsKnown script writing_of stream (new_pending op accepted writing)) →
      IsAlike script (write_accepted op stream writing mid) (write_accepted op stream writing half)
  write-alike writing known =
      let queues = queues_at mid stream in
      let rested = unmoved_queues queues in
      let good = alike.good stream in
      let accepted : half.accepted ≡ mid.accepted = ap (λ (h : ReactorHalf). h.accepted) alike.same in
      let pushed = λ (q : StreamQueues) (n : ℕ). let more : StreamQueues =
      record q { writes = q.writes ++ new_pending op n writing ∷ [] } in more in
      let by = λ (q : StreamQueues) (n : ℕ). cond q.closed (with_due (bad op ∷ []) half)
      (with_queues half stream (pushed q n)) in
      let same : write_accepted op stream writing half ≡ by rested mid.accepted =
      ap (λ q. by q half.accepted) (at-half script mid half alike stream) ∙ ap (by rested) accepted in
      let new = new_pending op mid.accepted writing in
      let is : pushed rested mid.accepted ≡ unmoved_queues (pushed queues mid.accepted) =
      ap (λ ws. let q : StreamQueues = record rested { writes = ws } in q)
      (sym (map_push unmoved queues.writes new)) in
      let more : IsGood script stream (pushed queues mid.accepted) = record {
        known = record {
          reads = good.known.reads;
          writes = one-more
              (IsKnown script writing_of stream) queues.writes new (known mid.accepted) good.known.writes;
        };
        aborts = record {
          reads = good.aborts.reads;
          writes = one-more (MayAbort script) queues.writes new
              (fresh op) good.aborts.writes;
        };
      } in
      subst (IsAlike script (write_accepted op stream writing mid)) (sym same)
      (alike-choice script queues.closed (with_due (bad op ∷ []) mid)
      (with_queues mid stream (pushed queues mid.accepted)) (with_due (bad op ∷ []) half)
      (with_queues half stream (pushed rested mid.accepted))
      (alike-due script mid half (bad op ∷ []) (bad op ∷ []) (bad-told script op) alike)
      (alike-queues script mid half stream (pushed queues mid.accepted) (pushed rested mid.accepted) is more alike))

connected-alike : (script : ScriptModel) (slot : Option ℕ) (op : ℕ) (mid half : ReactorHalf) →
    IsAlike script mid half → IsAlike script (connected slot op mid) (connected slot op half)
connected-alike script None op mid half alike = alike
connected-alike script (Some slot) op mid half alike =
    alike-kept script mid half (connected (Some slot) op) (λ streams due reached. refl) refl refl alike

expiry-alike : (script : ScriptModel) → MayAbortFresh script → (timer expiry : ℕ) (mid half : ReactorHalf) →
    IsAlike script mid half → IsAlike script (expiry_set timer expiry mid) (expiry_set timer expiry half)
expiry-alike script fresh timer expiry mid half alike =
    let sets : ReactorHalf → ReactorHalf = λ r. record r { expiries = set r.expiries timer expiry } in
    waits-cancelled script fresh (is_wait_of timer) (sets mid) (sets half)
    (alike-kept script mid half sets (λ streams due reached. refl) refl refl alike)

module _ (script : ScriptModel) (fresh : MayAbortFresh script) (a : ℕ) (mid half : ReactorHalf)
    (alike : IsAlike script mid half) where
  act-alike : (given : Act) → act_of script a ≡ Some given →
      IsAlike script (performed_act script a given mid) (performed_act script a given half)
  act-alike (act.Wait timer strand slot filter) is =
      connected-alike script slot a (wait_accepted a timer mid) (wait_accepted a timer half)
      (alike-kept script mid half (wait_accepted a timer) (λ streams due reached. refl) refl refl alike)
  act-alike (act.ReadSome stream size strand slot filter) is =
      let known = λ (accepted : ℕ). let k : IsKnown script reading_of stream
      (new_pending a accepted (Some_bytes size)) =
      record { act = act.ReadSome stream size strand slot filter; is_act = is; asks = refl; on = refl } in k in
      connected-alike script slot a (read_accepted a stream (Some_bytes size) mid)
      (read_accepted a stream (Some_bytes size) half)
      (read-alike script fresh mid half alike a stream (Some_bytes size) known)
  act-alike (act.ReadAll stream size strand slot filter) is =
      let known = λ (accepted : ℕ). let k : IsKnown script reading_of stream
      (new_pending a accepted (All_bytes size)) =
      record { act = act.ReadAll stream size strand slot filter; is_act = is; asks = refl; on = refl } in k in
      connected-alike script slot a (read_accepted a stream (All_bytes size) mid)
      (read_accepted a stream (All_bytes size) half)
      (read-alike script fresh mid half alike a stream (All_bytes size) known)
  act-alike (act.Until stream delimiter max strand slot filter) is =
      let known = λ (accepted : ℕ). let k : IsKnown script reading_of stream
      (new_pending a accepted (Until delimiter max)) =
      record { act = act.Until stream delimiter max strand slot filter; is_act = is; asks = refl; on = refl } in
      k in
      connected-alike script slot a (read_accepted a stream (Until delimiter max) mid)
      (read_accepted a stream (Until delimiter max) half)
      (read-alike script fresh mid half alike a stream (Until delimiter max) known)
  act-alike (act.WriteSome stream bytes strand slot filter) is =
      let known = λ (accepted : ℕ). let k : IsKnown script writing_of stream
      (new_pending a accepted (Some_of bytes)) = record {
        act = act.WriteSome stream bytes strand slot filter;
        is_act = is;
        asks = refl;
        on = refl;
      } in k in
      connected-alike script slot a (write_accepted a stream (Some_of bytes) mid)
      (write_accepted a stream (Some_of bytes) half)
      (write-alike script fresh mid half alike a stream (Some_of bytes) known)
  act-alike (act.WriteAll stream bytes strand slot filter) is =
      let known = λ (accepted : ℕ). let k : IsKnown script writing_of stream
      (new_pending a accepted (All_of bytes)) = record {
        act = act.WriteAll stream bytes strand slot filter;
        is_act = is;
        asks = refl;
        on = refl;
      } in k in
      connected-alike script slot a (write_accepted a stream (All_of bytes) mid)
      (write_accepted a stream (All_of bytes) half)
      (write-alike script fresh mid half alike a stream (All_of bytes) known)
  act-alike (act.Expires timer after) is =
      let now = ap (λ (h : ReactorHalf). h.now) alike.same in
      subst (λ n. IsAlike script (expiry_set timer (mid.now + after) mid) (expiry_set timer (n + after) half))
      (sym now) (expiry-alike script fresh timer (mid.now + after) mid half alike)
  act-alike (act.ExpiresAt timer at) is = expiry-alike script fresh timer at mid half alike
  act-alike (act.Cancel timer) is = waits-cancelled script fresh (is_wait_of timer) mid half alike
  act-alike (act.CancelOne timer) is = one-wait-cancelled script fresh mid half alike timer
  act-alike (act.Emit slot types) is = emitted-alike script fresh mid half alike slot types
  act-alike (act.Close stream) is = closed-alike script stream mid half alike
  act-alike (act.Release guard) is = alike-kept script mid half (guard_released guard)
      (λ streams due reached. refl) refl refl alike
  act-alike given is = alike

  by-alike : (given : Option Act) → act_of script a ≡ given →
      IsAlike script (performed_by script a given mid) (performed_by script a given half)
  by-alike None is = alike
  by-alike (Some given) is = act-alike given is

  pub performed-alike : IsAlike script (performed script a mid) (performed script a half)
  performed-alike =
      alike-kept script (performed_by script a (act_of script a) mid) (performed_by script a (act_of script a) half)
      (with_taken a) (λ streams due reached. refl) refl refl
      (by-alike (act_of script a) refl)

pub untold-performs : UntoldPerforms
untold-performs script a mid half formed unserved =
    alike-to script (performed script a mid) (performed script a half)
    (performed-alike script (well-formed-fresh script formed) a mid half (alike-from script mid half unserved))
