-- What is cancelled beside a history with untold bytes.
use Rattle.std.proofs.Common.{◌≡◌, ℕ, Bool, true, false, not, cond, nat_lt, List, [], ◌∷◌, ◌++◌, Option, Some, None, map, filter, get_or, refl, sym, ap, subst}
use Rattle.std.specs.List.{All, find}
use Rattle.std.proofs.lemmas.List.Elements.{All-filter, All-head, All-nil, All-tail}
use Rattle.asio_types.specs.declared.code.Code.TheVariants as code
use Rattle.session_script.specs.declared.act.Act.{Act}
use Rattle.session_script.specs.declared.act.Act.TheVariants as act
use Rattle.session_script.specs.Script.{ScriptModel, act_of}
use Rattle.stream_rules.specs.declared.queue.Completion.{Completion}
use Rattle.stream_rules.specs.Queue.{Pending}
use Rattle.stream_rules.specs.Serving.{Reading, Writing}
use Rattle.stream_rules.specs.Stream.{closed_stream}
use Rattle.stream_rules.specs.World.{changed_at}
use Rattle.history_rules.specs.Kinds.{reading_of, writing_of}
use Rattle.history_rules.specs.Performing.{aborted, all_aborted, all_of_stream, closed_at, emitted, emitted_to, is_of, is_reached, is_wait_for, is_wait_of, one_of_stream_cancelled, one_wait_cancelled, operation_cancelled, queues_at, shut_at, waits_cancelled, with_due, with_queues, with_writes}
use Rattle.history_rules.specs.State.{ReactorHalf, StreamQueues}
use Rattle.history_rules.specs.declared.wait.Wait.{Wait}
use Rattle.history_rules.specs.Untold.{may_have_moved}
use Rattle.proactor_core.specs.Pending.{unmoved}
use Rattle.proactor_core.specs.Untold.{unmoved_queues, AreToldBy, IsKnown, IsToldBy, MayAbort}
use Rattle.proactor_core.proofs.FilterLemmas.{filter-map}
use Rattle.proactor_core.proofs.UntoldLikeLemmas.{alike-choice, alike-due, alike-kept, alike-queues, alike-streams, at-half, told-append, IsAlike, IsGood}

-- whatever an operation is, its abort may tell that nothing was moved
abbrev pub MayAbortFresh : ScriptModel → Type 0
MayAbortFresh script = (op : ℕ) → may_have_moved (act_of script op) code.Aborted 0 0 ≡ true

waits-told : (script : ScriptModel) → MayAbortFresh script → (waits : List Wait) →
    AreToldBy script (map (λ wait. aborted wait.op 0) waits) (map (λ wait. aborted wait.op 0) waits)
waits-told script fresh [] = tt
waits-told script fresh (wait ∷ waits) = (
  record { is_op = refl; outcome = (refl, fresh wait.op) },
  waits-told script fresh waits,
)

pub waits-cancelled : (script : ScriptModel) → MayAbortFresh script →
    (test : Wait → Bool) (mid half : ReactorHalf) → IsAlike script mid half →
    IsAlike script (waits_cancelled test mid) (waits_cancelled test half)
waits-cancelled script fresh test mid half alike =
    let waits : half.waits ≡ mid.waits = ap (λ (h : ReactorHalf). h.waits) alike.same in
    let aborts = λ (ws : List Wait). map (λ (wait : Wait). aborted wait.op 0) (filter test ws) in
    let keeps : ReactorHalf → ReactorHalf = λ r. record r { waits = filter (λ wait. not (test wait)) r.waits } in
    let told : AreToldBy script (aborts half.waits) (aborts mid.waits) =
    subst (λ ws. AreToldBy script (aborts ws) (aborts mid.waits)) (sym waits)
    (waits-told script fresh (filter test mid.waits)) in
    alike-due script (keeps mid) (keeps half) (aborts half.waits) (aborts mid.waits) told
    (alike-kept script mid half keeps (λ streams due reached. refl) refl refl alike)

module _ {Asks : Type 0} (script : ScriptModel) where
  pub abort-told : (pending : Pending Asks) → MayAbort script pending →
      IsToldBy script (aborted pending.op 0) (aborted pending.op pending.moved)
  abort-told pending may = record { is_op = refl; outcome = (refl, may) }

  pub aborts-told : (queue : List (Pending Asks)) → All (MayAbort script) queue →
      AreToldBy script (all_aborted (map unmoved queue)) (all_aborted queue)
  aborts-told [] all = tt
  aborts-told (pending ∷ queue) all = (
    abort-told pending (All-head (MayAbort script) pending queue all),
    aborts-told queue
        (All-tail (MayAbort script) pending queue all),
  )

  -- those that pass, and those that stay
  pub passed-told : (op : ℕ) (queue : List (Pending Asks)) → All (MayAbort script) queue →
      AreToldBy script (all_aborted (filter (is_of op) (map unmoved queue))) (all_aborted (filter (is_of op) queue))
  passed-told op queue all =
      subst (λ (q : List (Pending Asks)). AreToldBy script (all_aborted q) (all_aborted (filter (is_of op) queue)))
      (sym (filter-map (is_of op) unmoved queue))
      (aborts-told (filter (is_of op) queue) (All-filter (is_of op) (MayAbort script) queue all))

  pub stay-unmoved : (op : ℕ) (queue : List (Pending Asks)) →
      filter (λ pending. not (is_of op pending)) (map unmoved queue) ≡
      map unmoved (filter (λ pending. not (is_of op pending)) queue)
  stay-unmoved op queue = filter-map (λ pending. not (is_of op pending)) unmoved queue

-- the queues of a stream without an operation
without : ℕ → StreamQueues → StreamQueues
without op queues = record queues {
  reads = filter (λ pending. not (is_of op pending)) queues.reads;
  writes = filter (λ pending. not (is_of op pending)) queues.writes;
}

without-good : (script : ScriptModel) (stream op : ℕ) (queues : StreamQueues) → IsGood script stream queues →
    IsGood script stream (without op queues)
unfolding without
without-good script stream op queues good =
    let reads : (P : Pending Reading → Type 0) → All P queues.reads → All P (without op queues).reads =
    λ P all. All-filter (λ pending. not (is_of op pending)) P queues.reads all in
    let writes : (P : Pending Writing → Type 0) → All P queues.writes → All P (without op queues).writes =
    λ P all. All-filter (λ pending. not (is_of op pending)) P queues.writes all in
    record {
      known = record {
        reads = reads (IsKnown script reading_of stream) good.known.reads;
        writes = writes (IsKnown script writing_of stream) good.known.writes;
      };
      aborts = record {
        reads = reads (MayAbort script) good.aborts.reads;
        writes = writes (MayAbort script) good.aborts.writes;
      };
    }

pub one-cancelled : (script : ScriptModel) (op stream : ℕ) (mid half : ReactorHalf) → IsAlike script mid half →
    IsAlike script (one_of_stream_cancelled op stream mid) (one_of_stream_cancelled op stream half)
unfolding without
one-cancelled script op stream mid half alike =
    let queues = queues_at mid stream in
    let rested = unmoved_queues queues in
    let good = alike.good stream in
    let aborts = λ (q : StreamQueues). all_aborted (filter (is_of op) q.reads) ++
    all_aborted (filter (is_of op) q.writes) in
    let by = λ (q : StreamQueues). with_due (aborts q) (with_queues half stream (without op q)) in
    let is : without op rested ≡ unmoved_queues (without op queues) =
    λ k. record {
      closed = queues.closed;
      reads = stay-unmoved script op queues.reads k;
      writes = stay-unmoved script op queues.writes k;
    } in
    let told : AreToldBy script (aborts rested) (aborts queues) =
    told-append script (all_aborted (filter (is_of op) rested.reads)) (all_aborted (filter (is_of op) queues.reads))
    (all_aborted (filter (is_of op) rested.writes)) (all_aborted (filter (is_of op) queues.writes))
    (passed-told script op queues.reads good.aborts.reads)
    (passed-told script op queues.writes good.aborts.writes) in
    subst (IsAlike script (one_of_stream_cancelled op stream mid))
    (sym (ap by (at-half script mid half alike stream)))
    (alike-due script (with_queues mid stream (without op queues)) (with_queues half stream (without op rested))
    (aborts rested) (aborts queues) told
    (alike-queues script mid half stream (without op queues) (without op rested) is
    (without-good script stream op queues good) alike))

later-told : (script : ScriptModel) (test : Bool) (own told first second : Completion)
    (own_later later own_behind behind : List Completion) → IsToldBy script own told →
    IsToldBy script first second → AreToldBy script own_later later → AreToldBy script own_behind behind →
    AreToldBy script (cond test (own ∷ own_later) (first ∷ own_behind)) (cond test (told ∷ later) (second ∷ behind))
later-told script true own told first second own_later later own_behind behind is other are rest = (is, are)
later-told script false own told first second own_later later own_behind behind is other are rest = (other, rest)

module _ (script : ScriptModel) (accepted : ℕ) (own told : Completion)
    (own_later later : List (Pending Writing) → List Completion) (is : IsToldBy script own told)
    (are : (writes : List (Pending Writing)) → All (MayAbort script) writes →
    AreToldBy script (own_later (map unmoved writes)) (later writes)) where
  writes-told : (writes : List (Pending Writing)) → All (MayAbort script) writes →
      AreToldBy script (with_writes accepted own own_later (map unmoved writes))
      (with_writes accepted told later writes)
  writes-told [] all = (is, are [] all)
  writes-told (write ∷ writes) all =
      later-told script (nat_lt accepted write.accepted) own told (aborted write.op 0)
      (aborted write.op write.moved)
      (own_later (map unmoved (write ∷ writes))) (later (write ∷ writes))
      (with_writes accepted own own_later (map unmoved writes)) (with_writes accepted told later writes)
      is (abort-told script write (All-head (MayAbort script) write writes all)) (are (write ∷ writes) all)
      (writes-told writes (All-tail (MayAbort script) write writes all))

closed-told : (script : ScriptModel) (reads : List (Pending Reading)) (writes : List (Pending Writing)) →
    All (MayAbort script) reads → All (MayAbort script) writes →
    AreToldBy script (all_of_stream (map unmoved reads) (map unmoved writes)) (all_of_stream reads writes)
closed-told script [] writes all others = aborts-told script writes others
closed-told script (read ∷ reads) writes all others =
    let rest = λ (ws : List (Pending Writing)) (every : All (MayAbort script) ws). closed-told script reads ws
    (All-tail (MayAbort script) read reads all) every in
    writes-told script read.accepted (aborted read.op 0) (aborted read.op read.moved)
    (all_of_stream (map unmoved reads)) (all_of_stream reads)
    (abort-told script read (All-head (MayAbort script) read reads all)) rest writes others

shut-alike : (script : ScriptModel) (stream : ℕ) (mid half : ReactorHalf) → IsAlike script mid half →
    IsAlike script (shut_at stream mid) (shut_at stream half)
shut-alike script stream mid half alike =
    let queues = queues_at mid stream in
    let rested = unmoved_queues queues in
    let good = alike.good stream in
    let empty : StreamQueues = record { closed = true; reads = []; writes = [] } in
    let closes = λ (r : ReactorHalf). changed_at stream closed_stream r.streams in
    let shut = λ (r : ReactorHalf). let s : ReactorHalf = record r { streams = closes r } in s in
    let by = λ (q : StreamQueues). with_due (all_of_stream q.reads q.writes)
    (with_queues (shut half) stream empty) in
    let nothing : IsGood script stream empty = record {
      known = record {
        reads = All-nil (IsKnown script reading_of stream);
        writes = All-nil (IsKnown script writing_of stream);
      };
      aborts = record { reads = All-nil (MayAbort script); writes = All-nil (MayAbort script) };
    } in
    subst (IsAlike script (shut_at stream mid)) (sym (ap by (at-half script mid half alike stream)))
    (alike-due script (with_queues (shut mid) stream empty) (with_queues (shut half) stream empty)
    (all_of_stream rested.reads rested.writes) (all_of_stream queues.reads queues.writes)
    (closed-told script queues.reads queues.writes good.aborts.reads good.aborts.writes)
    (alike-queues script (shut mid) (shut half) stream empty empty refl nothing
    (alike-streams script mid half (closes mid) (closes half) alike)))

pub closed-alike : (script : ScriptModel) (stream : ℕ) (mid half : ReactorHalf) → IsAlike script mid half →
    IsAlike script (closed_at stream mid) (closed_at stream half)
closed-alike script stream mid half alike =
    let by = λ (q : StreamQueues). cond q.closed half (shut_at stream half) in
    subst (IsAlike script (closed_at stream mid)) (sym (ap by (at-half script mid half alike stream)))
    (alike-choice script (queues_at mid stream).closed mid (shut_at stream mid) half (shut_at stream half) alike
    (shut-alike script stream mid half alike))

module _ (script : ScriptModel) (fresh : MayAbortFresh script) (mid half : ReactorHalf)
    (alike : IsAlike script mid half) where
  operation-cancelled : (given : Act) (op : ℕ) → IsAlike script (operation_cancelled given op mid)
      (operation_cancelled given op half)
  operation-cancelled (act.Wait timer strand slot filter) op =
      waits-cancelled script fresh (is_wait_for op) mid half alike
  operation-cancelled (act.ReadSome stream size strand slot filter) op =
      one-cancelled script op stream mid half alike
  operation-cancelled (act.ReadAll stream size strand slot filter) op =
      one-cancelled script op stream mid half alike
  operation-cancelled (act.Until stream delimiter max strand slot filter) op =
      one-cancelled script op stream mid half alike
  operation-cancelled (act.WriteSome stream bytes strand slot filter) op =
      one-cancelled script op stream mid half alike
  operation-cancelled (act.WriteAll stream bytes strand slot filter) op =
      one-cancelled script op stream mid half alike
  operation-cancelled given op = alike

  emitted-to : (given : Option Act) (types op : ℕ) → IsAlike script (emitted_to given types op mid)
      (emitted_to given types op half)
  emitted-to None types op = alike
  emitted-to (Some given) types op =
      alike-choice script (is_reached given types) (operation_cancelled given op mid) mid
      (operation_cancelled given op half) half (operation-cancelled given op) alike

  emitted-by : (connected : Option ℕ) (types : ℕ) → IsAlike script (emitted script connected types mid)
      (emitted script connected types half)
  emitted-by None types = alike
  emitted-by (Some op) types = emitted-to (act_of script op) types op

  pub emitted-alike : (slot types : ℕ) → IsAlike script (emitted script (get_or mid.slots slot None) types mid)
      (emitted script (get_or half.slots slot None) types half)
  emitted-alike slot types =
      let slots : half.slots ≡ mid.slots = ap (λ (h : ReactorHalf). h.slots) alike.same in
      subst (λ (all : List (Option ℕ)). IsAlike script (emitted script (get_or mid.slots slot None) types mid)
      (emitted script (get_or all slot None) types half)) (sym slots)
      (emitted-by (get_or mid.slots slot None) types)

  found-cancelled : (found : Option Wait) → IsAlike script (one_wait_cancelled found mid)
      (one_wait_cancelled found half)
  found-cancelled None = alike
  found-cancelled (Some wait) = waits-cancelled script fresh (is_wait_for wait.op) mid half alike

  pub one-wait-cancelled : (timer : ℕ) → IsAlike script (one_wait_cancelled (find (is_wait_of timer) mid.waits) mid)
      (one_wait_cancelled (find (is_wait_of timer) half.waits) half)
  one-wait-cancelled timer =
      let waits : half.waits ≡ mid.waits = ap (λ (h : ReactorHalf). h.waits) alike.same in
      subst (λ (all : List Wait). IsAlike script (one_wait_cancelled (find (is_wait_of timer) mid.waits) mid)
      (one_wait_cancelled (find (is_wait_of timer) all) half)) (sym waits)
      (found-cancelled (find (is_wait_of timer) mid.waits))
