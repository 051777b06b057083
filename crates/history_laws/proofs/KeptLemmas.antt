-- Along a legal history what is due is right: what is aborted was cancelled, and waits have expired.
use Rattle.std.proofs.Common.{◌≡◌, ◌≢◌, ℕ, ◌<◌, ◌≤◌, Bool, true, false, List, [], ◌∷◌, ◌++◌, Option, Some, None, drop, length, inl, inr, refl, sym, ap, subst, ◌∙◌, arith}
use Rattle.std.specs.List.{All, slice_index_or}
use Rattle.std.specs.Prelude.{slice_get}
use Rattle.std.proofs.lemmas.Bool.{cases_lt}
use Rattle.std.proofs.lemmas.List.{length-append}
use Rattle.std.proofs.lemmas.Bool.Decides.{nat_tests}
use Rattle.std.proofs.lemmas.List.Elements.{All-drop, All-nil, All-tail, All-weaker}
use Rattle.std.proofs.lemmas.Option.{slice_get_within}
use Rattle.asio_types.specs.declared.code.Code.TheVariants as code
use Rattle.asio_types.specs.declared.event.Event.{Event}
use Rattle.asio_types.specs.declared.event.Event.TheVariants as event
use Rattle.session_script.specs.declared.act.Act.{Act}
use Rattle.session_script.specs.declared.act.Act.TheVariants as act
use Rattle.session_script.specs.Script.{ScriptModel, act_of}
use Rattle.stream_rules.specs.declared.queue.Completion.{Completion}
use Rattle.stream_rules.specs.Queue.{Pending}
use Rattle.stream_rules.specs.Serving.{Reading, Writing}
use Rattle.history_rules.specs.Kinds.{stream_of}
use Rattle.history_rules.specs.Legal.{MayHappen, after_event}
use Rattle.history_rules.specs.Performing.{performed_act, performed_by, queues_at, with_queues, with_taken}
use Rattle.history_rules.specs.Requests.{disconnected, reactor_after_done, reactor_after_take, slot_in, told_off}
use Rattle.history_rules.specs.Settling.{expiry_of, is_due, settled}
use Rattle.history_rules.specs.State.{ReactorHalf, State, StreamQueues, first_reactor, no_queues}
use Rattle.history_rules.specs.Time.{at_last, at_time}
use Rattle.history_rules.specs.Untold.{gone, reading_place, writing_place}
use Rattle.history_rules.specs.declared.wait.Wait.{Wait}
use Rattle.history_laws.specs.Cancelled.{may_cancel}
use Rattle.history_laws.specs.Events.{StandsAt}
use Rattle.history_laws.specs.Clock.{IsWaitOf}
use Rattle.history_laws.proofs.ClockLemmas.{settled_keeps, told_keeps}
use Rattle.history_laws.proofs.FirstLemmas.{repeated}
use Rattle.history_laws.proofs.HeldLemmas.{AreQueued, Holds, IsOn, at_queues, settles}
use Rattle.history_laws.proofs.HistoryLemmas.{stands_last, stands_more}
use Rattle.history_laws.proofs.PerformedLemmas.{AreConnected, performs, slots_performed, slots_settled, slots_told}
use Rattle.history_laws.proofs.Shown.{StandsIn}

-- an act that was taken behind the operation may cancel it
pub record CancelledIn (script : ScriptModel) (before : List Event) (n : ℕ) : Type 0 where
  pub canceller : ℕ
  pub by : Act
  pub target : Act
  pub is_canceller : act_of script canceller ≡ Some by
  pub is_target : act_of script n ≡ Some target
  pub may : may_cancel by target ≡ true
  pub taken : ℕ
  pub cancelled : ℕ
  pub order : taken < cancelled
  pub takes : StandsAt before taken (event.Take n)
  pub cancels : StandsAt before cancelled (event.Take canceller)

-- a completion that is due is right
pub record IsRight (script : ScriptModel) (before : List Event) (expiries : List ℕ) (now : ℕ) (done : Completion) : Type 0
  where
    pub aborted : done.outcome.0 ≡ code.Aborted → CancelledIn script before done.op
    pub expired : done.outcome.0 ≡ code.Ok → (timer : ℕ) → IsWaitOf script timer done.op →
        slice_index_or expiries timer 0 ≤ now

abbrev pub Seen : List Event → ℕ → Type 0
Seen before n = StandsIn before (event.Take n)

abbrev pub Timed : ScriptModel → List Event → ℕ → ℕ → Type 0
Timed script before timer n = IsWaitOf script timer n × Seen before n

abbrev pub Streamed : ScriptModel → List Event → ℕ → ℕ → Type 0
Streamed script before stream n = IsOn script stream n × Seen before n

pub record IsKept (script : ScriptModel) (before : List Event) (r : ReactorHalf) : Type 0 where
  pub held : Holds (Timed script before) (Streamed script before) r
  pub slots : AreConnected script r
  pub due : All (IsRight script before r.expiries r.now) r.due

cancelled_more : (script : ScriptModel) (before : List Event) (e : Event) (n : ℕ) → CancelledIn script before n →
    CancelledIn script (before ++ e ∷ []) n
cancelled_more script before e n was = record {
  canceller = was.canceller;
  by = was.by;
  target = was.target;
  is_canceller = was.is_canceller;
  is_target = was.is_target;
  may = was.may;
  taken = was.taken;
  cancelled = was.cancelled;
  order = was.order;
  takes = stands_more before e (event.Take n) was.taken was.takes;
  cancels = stands_more before e (event.Take was.canceller) was.cancelled was.cancels;
}

right_more : (script : ScriptModel) (before : List Event) (e : Event) (expiries : List ℕ) (now : ℕ) (done : Completion) →
    IsRight script before expiries now done → IsRight script (before ++ e ∷ []) expiries now done
right_more script before e expiries now done right = record {
  aborted = λ is. cancelled_more script before e done.op (right.aborted is);
  expired = right.expired;
}

seen_more : (before : List Event) (e : Event) (n : ℕ) → Seen before n → Seen (before ++ e ∷ []) n
seen_more before e n seen = (seen.0, stands_more before e (event.Take n) seen.0 seen.1)

held_more : (script : ScriptModel) (before : List Event) (e : Event) (r : ReactorHalf) →
    Holds (Timed script before) (Streamed script before) r →
    Holds (Timed script (before ++ e ∷ [])) (Streamed script (before ++ e ∷ [])) r
held_more script before e r held = record {
  waits =
      All-weaker (λ (wait : Wait). Timed script before wait.timer wait.op)
      (λ wait. Timed script (before ++ e ∷ []) wait.timer wait.op)
      (λ wait was. (was.0, seen_more before e wait.op was.1)) r.waits held.waits;
  queues = λ stream. (
    All-weaker (λ (pending : Pending Reading). Streamed script before stream pending.op)
        (λ pending. Streamed script (before ++ e ∷ []) stream pending.op)
        (λ pending was. (was.0, seen_more before e pending.op was.1)) (queues_at r stream).reads (held.queues stream).0,
    All-weaker (λ (pending : Pending Writing). Streamed script before stream pending.op)
        (λ pending. Streamed script (before ++ e ∷ []) stream pending.op)
        (λ pending was. (was.0, seen_more before e pending.op was.1)) (queues_at r stream).writes (held.queues stream).1,
  );
}

-- an event that leaves the reactor
kept_same : (script : ScriptModel) (before : List Event) (e : Event) (r : ReactorHalf) → IsKept script before r →
    IsKept script (before ++ e ∷ []) r
kept_same script before e r kept = record {
  held = held_more script before e r kept.held;
  slots = kept.slots;
  due =
      All-weaker (IsRight script before r.expiries r.now) (IsRight script (before ++ e ∷ []) r.expiries r.now)
      (λ done right. right_more script before e r.expiries r.now done right) r.due kept.due;
}

-- no act cancels itself
never_itself : (given : Act) → may_cancel given given ≡ true → ⊥
never_itself (act.Expires timer after) is = absurd (cc)
never_itself (act.ExpiresAt timer at) is = absurd (cc)
never_itself (act.Cancel timer) is = absurd (cc)
never_itself (act.CancelOne timer) is = absurd (cc)
never_itself (act.Emit slot types) is = absurd (cc)
never_itself (act.Close stream) is = absurd (cc)
never_itself _ is = absurd (cc)

-- an operation of a stream is no wait
pub no_wait : (script : ScriptModel) (stream timer n : ℕ) → IsOn script stream n → IsWaitOf script timer n → ⊥
no_wait script stream timer n on wait =
    let same : Some on.act ≡ Some (act.Wait timer wait.strand wait.slot wait.filter) = sym on.is ∙ wait.act in
    let it : on.act ≡ act.Wait timer wait.strand wait.slot wait.filter = cc in
    absurd (let wrong : None ≡ Some stream = sym (ap stream_of it) ∙ on.on in cc)

pub one_timer : (script : ScriptModel) (first second n : ℕ) → IsWaitOf script first n → IsWaitOf script second n → first ≡ second
one_timer script first second n one two =
    let same : Some (act.Wait first one.strand one.slot one.filter) ≡ Some (act.Wait second two.strand two.slot two.filter) =
    sym one.act ∙ two.act in
    cc

due_now : (r : ReactorHalf) (wait : Wait) → is_due r wait ≡ true → expiry_of r wait ≤ r.now
due_now r wait due = grind (arith, nat_tests, due)

-- a turn that settles, where nothing is due that isn't right
settles_kept : (script : ScriptModel) (told : Bool) (before : List Event) (r : ReactorHalf) →
    Holds (Timed script before) (Streamed script before) r → AreConnected script r →
    All (IsRight script before r.expiries r.now) r.due → IsKept script before (settled told r)
settles_kept script told before r held slots due =
    let P : Completion → Type 0 = IsRight script before r.expiries r.now in
    let keeps = settled_keeps told r in
    let all = settles (Timed script before) (Streamed script before) P
    (λ stream n outcome of never. record {
      aborted = λ is. absurd (never is);
      expired = λ is timer wait. absurd (no_wait script stream timer n of.0 wait);
    }) told r
    (λ wait of due. record {
      aborted = λ is. absurd (cc);
      expired = λ is timer also.
          let same = one_timer script timer wait.timer wait.op also of.0 in
          let now = due_now r wait due in
          let at : slice_index_or r.expiries timer 0 ≡ expiry_of r wait = ap (λ timer. slice_index_or r.expiries timer 0) same in
          omega (arith, now, at);
    }) (record { held = held; due = due }) in
    record {
      held = all.held;
      slots = slots_settled script told r slots;
      due =
          subst (λ (expiries : List ℕ). All (IsRight script before expiries (settled told r).now) (settled told r).due)
          (sym keeps.expiries)
          (subst (λ (now : ℕ). All (IsRight script before r.expiries now) (settled told r).due) (sym keeps.now) all.due);
    }

module _ (script : ScriptModel) (told : Bool) (before : List Event) (r : ReactorHalf) (kept : IsKept script before r) where
  none_due : (P : Completion → Type 0) → r.due ≡ [] → All P r.due
  none_due P none = subst (λ (due : List Completion). All P due) (sym none) (All-nil P)

  -- an act that is taken
  take_kept : (a : ℕ) → r.due ≡ [] → IsKept script (before ++ event.Take a ∷ []) (reactor_after_take script told r a)
  take_kept a none = by_act (act_of script a) refl
    where
      held : Holds (Timed script (before ++ event.Take a ∷ [])) (Streamed script (before ++ event.Take a ∷ [])) r
      held = held_more script before (event.Take a) r kept.held

      last : Seen (before ++ event.Take a ∷ []) a
      last = (length before, stands_last before (event.Take a))

      -- what is cancelled was taken before
      hits : (given : Act) → act_of script a ≡ Some given → (n moved : ℕ) (target : Act) → act_of script n ≡ Some target →
          may_cancel given target ≡ true → Seen (before ++ event.Take a ∷ []) n →
          CancelledIn script (before ++ event.Take a ∷ []) n
      hits given is n moved target of may seen =
          let apart : n ≢ a = λ same.
          let both : Some given ≡ Some target = sym is ∙ (ap (act_of script) (sym same) ∙ of) in
          let it : given ≡ target = cc in
          never_itself given (subst (λ (target : Act). may_cancel given target ≡ true) (sym it) may) in
          let within = slice_get_within (before ++ event.Take a ∷ []) seen.0 (event.Take n) seen.1 in
          let long = length-append before (event.Take a ∷ []) in
          let order : seen.0 < length before =
          elim (cases_lt seen.0 (length before)) [
            | inl less ↦ less
            | inr more ↦
                let here : seen.0 ≡ length before = omega (arith, within, long, more) in
                let both : Some (event.Take a) ≡ Some (event.Take n) =
                sym (stands_last before (event.Take a))
                ∙ (ap (λ k. slice_get (before ++ event.Take a ∷ []) k) (sym here) ∙ seen.1) in
                let it : a ≡ n = cc in absurd (apart (sym it))
          ] in
          record {
            canceller = a;
            by = given;
            target = target;
            is_canceller = is;
            is_target = of;
            may = may;
            taken = seen.0;
            cancelled = length before;
            order = order;
            takes = seen.1;
            cancels = stands_last before (event.Take a);
          }

      settle_after : (by : ReactorHalf) →
          Holds (Timed script (before ++ event.Take a ∷ [])) (Streamed script (before ++ event.Take a ∷ [])) by →
          AreConnected script by →
          All (IsRight script (before ++ event.Take a ∷ []) by.expiries by.now) by.due →
          IsKept script (before ++ event.Take a ∷ []) (settled told (with_taken a by))
      settle_after by held slots due =
          settles_kept script told (before ++ event.Take a ∷ []) (with_taken a by)
          (record { waits = held.waits; queues = held.queues }) slots due

      by_act : (given : Option Act) → act_of script a ≡ given →
          IsKept script (before ++ event.Take a ∷ []) (settled told (with_taken a (performed_by script a given r)))
      by_act None is = settle_after r held kept.slots
          (none_due (IsRight script (before ++ event.Take a ∷ []) r.expiries r.now) none)
      by_act (Some given) is =
          let by : ReactorHalf = performed_act script a given r in
          let P : Completion → Type 0 = IsRight script (before ++ event.Take a ∷ []) by.expiries by.now in
          let all = performs script (Seen (before ++ event.Take a ∷ [])) P a given is last
          (record { aborted = λ is. absurd (cc); expired = λ is timer wait. absurd (cc) })
          (λ n moved target of may seen. record {
            aborted = λ is_aborted. hits given is n moved target of may seen;
            expired = λ is_ok timer wait. absurd (cc);
          }) r kept.slots (record { held = held; due = none_due P none }) in
          settle_after by all.held (slots_performed script a given r is kept.slots) all.due

  gone_due : (given : Option Act) → (gone given r).due ≡ r.due
  gone_due (Some (act.ReadSome stream size strand slot filter)) = refl
  gone_due (Some (act.ReadAll stream size strand slot filter)) = refl
  gone_due (Some (act.Until stream delimiter max strand slot filter)) = refl
  gone_due (Some (act.WriteSome stream bytes strand slot filter)) = refl
  gone_due (Some (act.WriteAll stream bytes strand slot filter)) = refl
  gone_due _ = refl

  off_due : (P : Completion → Type 0) (o : ℕ) (due : List Completion) → r.due ≡ due → All P r.due →
      All P (told_off script o r due).due
  off_due P o [] is all = subst (λ (due : List Completion). All P due) (sym (gone_due (act_of script o))) all
  off_due P o (next ∷ due) is all = All-tail P next due (subst (λ (due : List Completion). All P due) is all)

  gone_read : (T Q : ℕ → ℕ → Type 0) (stream reached : ℕ) → Holds T Q r →
      Holds T Q (record (with_queues r stream (record (queues_at r stream) { reads = drop 1 (queues_at r stream).reads }))
      { reached = reached })
  gone_read T Q stream reached held = record {
    waits = held.waits;
    queues =
        at_queues (AreQueued Q) r.queues stream (record (queues_at r stream) { reads = drop 1 (queues_at r stream).reads }) (
          All-drop (λ (pending : Pending Reading). Q stream pending.op) 1 (queues_at r stream).reads (held.queues stream).0,
          (held.queues stream).1,
        ) held.queues;
  }

  gone_write : (T Q : ℕ → ℕ → Type 0) (stream reached : ℕ) → Holds T Q r →
      Holds T Q (record (with_queues r stream (record (queues_at r stream) { writes = drop 1 (queues_at r stream).writes }))
      { reached = reached })
  gone_write T Q stream reached held = record {
    waits = held.waits;
    queues =
        at_queues (AreQueued Q) r.queues stream (record (queues_at r stream) { writes = drop 1 (queues_at r stream).writes }) (
          (held.queues stream).0,
          All-drop (λ (pending : Pending Writing). Q stream pending.op) 1 (queues_at r stream).writes (held.queues stream).1,
        ) held.queues;
  }

  gone_held : (T Q : ℕ → ℕ → Type 0) (given : Option Act) → Holds T Q r → Holds T Q (gone given r)
  gone_held T Q (Some (act.ReadSome stream size strand slot filter)) held = gone_read T Q stream (reading_place stream) held
  gone_held T Q (Some (act.ReadAll stream size strand slot filter)) held = gone_read T Q stream (reading_place stream) held
  gone_held T Q (Some (act.Until stream delimiter max strand slot filter)) held = gone_read T Q stream (reading_place stream) held
  gone_held T Q (Some (act.WriteSome stream bytes strand slot filter)) held = gone_write T Q stream (writing_place stream) held
  gone_held T Q (Some (act.WriteAll stream bytes strand slot filter)) held = gone_write T Q stream (writing_place stream) held
  gone_held T Q _ held = held

  off_held : (T Q : ℕ → ℕ → Type 0) (o : ℕ) (due : List Completion) → Holds T Q r → Holds T Q (told_off script o r due)
  off_held T Q o [] held = gone_held T Q (act_of script o) held
  off_held T Q o (next ∷ due) held = record { waits = held.waits; queues = held.queues }

  left_held : (T Q : ℕ → ℕ → Type 0) (o : ℕ) (slot : Option ℕ) (t : ReactorHalf) → Holds T Q t → Holds T Q (disconnected o slot t)
  left_held T Q o None t held = held
  left_held T Q o (Some slot) t held = record { waits = held.waits; queues = held.queues }

  left_due : (P : Completion → Type 0) (o : ℕ) (slot : Option ℕ) (t : ReactorHalf) → All P t.due →
      All P (disconnected o slot t).due
  left_due P o None t all = all
  left_due P o (Some slot) t all = all

  pub told_held : (T Q : ℕ → ℕ → Type 0) (o : ℕ) → Holds T Q r → Holds T Q (reactor_after_done script r o)
  told_held T Q o held =
      let off = off_held T Q o r.due held in
      left_held T Q o (slot_in (act_of script o)) (record (told_off script o r r.due) { whole_turn = false })
      (record { waits = off.waits; queues = off.queues })

  pub told_due : (P : Completion → Type 0) (o : ℕ) → All P r.due → All P (reactor_after_done script r o).due
  told_due P o all =
      left_due P o (slot_in (act_of script o)) (record (told_off script o r r.due) { whole_turn = false })
      (off_due P o r.due refl all)

  -- a completion
  done_kept : (e : Event) (o : ℕ) → IsKept script (before ++ e ∷ []) (reactor_after_done script r o)
  done_kept e o =
      let same = kept_same script before e r kept in
      let keeps = told_keeps script o r in
      record {
        held = told_held (Timed script (before ++ e ∷ [])) (Streamed script (before ++ e ∷ [])) o same.held;
        slots = slots_told script o r same.slots;
        due =
            subst (λ (expiries : List ℕ). All (IsRight script (before ++ e ∷ []) expiries (reactor_after_done script r o).now)
            (reactor_after_done script r o).due)
            (sym keeps.expiries)
            (subst (λ (now : ℕ). All (IsRight script (before ++ e ∷ []) r.expiries now) (reactor_after_done script r o).due)
            (sym keeps.now)
            (told_due (IsRight script (before ++ e ∷ []) r.expiries r.now) o same.due));
      }

  -- time moves, or its last point passes
  moved_kept : (e : Event) (u : ReactorHalf) → r.due ≡ [] → u.waits ≡ r.waits → u.queues ≡ r.queues → u.slots ≡ r.slots →
      u.due ≡ r.due → IsKept script (before ++ e ∷ []) (settled told u)
  moved_kept e u none waits queues slots due =
      let held = held_more script before e r kept.held in
      settles_kept script told (before ++ e ∷ []) u
      (record {
        waits =
            subst (λ (waits : List Wait). All (λ wait. Timed script (before ++ e ∷ []) wait.timer wait.op) waits) (sym waits)
            held.waits;
        queues = λ stream.
            subst (λ (queues : List StreamQueues). AreQueued (Streamed script (before ++ e ∷ [])) stream
            (slice_index_or queues stream no_queues))
            (sym queues) (held.queues stream);
      })
      (subst (λ (slots : List (Option ℕ)). (slot op : ℕ) → slice_index_or slots slot None ≡ Some op →
      slot_in (act_of script op) ≡ Some slot)
      (sym slots) kept.slots)
      (subst (λ (due : List Completion). All (IsRight script (before ++ e ∷ []) u.expiries u.now) due) (sym (due ∙ none))
      (All-nil (IsRight script (before ++ e ∷ []) u.expiries u.now)))

-- each event keeps it
pub kept_after : (script : ScriptModel) (told : Bool) (before : List Event) (s : State) (e : Event) →
    IsKept script before s.reactor → MayHappen script told s e →
    IsKept script (before ++ e ∷ []) (after_event script told s e).reactor
kept_after script told before s (event.Take a) kept may = take_kept script told before s.reactor kept a may.turn.told
kept_after script told before s (event.Done o given size) kept may =
    done_kept script told before s.reactor kept (event.Done o given size) o
kept_after script told before s (event.Tick now) kept may =
    moved_kept script told before s.reactor kept (event.Tick now) (at_time script told now s.reactor) may.idle.turn.told refl refl
    refl refl
kept_after script told before s event.Last kept may =
    moved_kept script told before s.reactor kept event.Last (at_last told s.reactor) may.idle.turn.told refl refl refl refl
kept_after script told before s event.Fault kept may =
    let same = kept_same script before event.Fault s.reactor kept in
    record {
      held = record { waits = same.held.waits; queues = same.held.queues };
      slots = same.slots;
      due = All-nil (IsRight script (before ++ event.Fault ∷ []) s.reactor.expiries s.reactor.now);
    }
kept_after script told before s (event.Stop (Some a)) kept may = kept_same script before (event.Stop (Some a)) s.reactor kept
kept_after script told before s (event.Stop None) kept may = kept_same script before (event.Stop None) s.reactor kept
kept_after script told before s e kept may = kept_same script before e s.reactor kept

pub first_kept : (script : ScriptModel) (told : Bool) → IsKept script [] (first_reactor script told)
first_kept script told = record {
  held = record {
    waits = All-nil (λ (wait : Wait). Timed script [] wait.timer wait.op);
    queues = λ stream.
        subst (AreQueued (Streamed script []) stream) (sym (repeated no_queues script.world.streams stream)) (
          All-nil (λ (pending : Pending Reading). Streamed script [] stream pending.op),
          All-nil (λ (pending : Pending Writing). Streamed script [] stream pending.op),
        );
  };
  slots = λ slot op holds.
      absurd (let wrong : None ≡ Some op = sym (repeated None script.slots slot) ∙ holds in cc);
  due = All-nil (IsRight script [] (first_reactor script told).expiries 0);
}
