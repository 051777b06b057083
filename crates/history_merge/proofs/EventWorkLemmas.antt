-- What each event changes in the outstanding work is what its draw changes.
use Rattle.std.proofs.Common.{◌≡◌, ◌⊎◌, ℕ, ◌+◌, Bool, true, false, cond, Option, None, Some, inl, inr, length, refl, sym, ap, ◌∙◌, arith}
use Rattle.std.specs.Prelude.{count_by, not, slice_get}
use Rattle.std.proofs.lemmas.Bool.{and_parts}
use Rattle.asio_types.specs.declared.code.Code.TheVariants as code
use Rattle.asio_types.specs.declared.event.Event.{Event}
use Rattle.asio_types.specs.declared.event.Event.TheVariants as event
use Rattle.session_script.specs.declared.act.Act.{Act}
use Rattle.session_script.specs.declared.act.Act.TheVariants as act
use Rattle.session_script.specs.Lanes.{is_inline}
use Rattle.session_script.specs.Script.{Entry, ScriptModel, is_operation, stops}
use Rattle.session_script.specs.WellFormed.{IsWellFormed}
use Rattle.history_rules.specs.Executions.{has_finished}
use Rattle.history_rules.specs.Kinds.{is_act, is_control, is_posting}
use Rattle.history_rules.specs.Legal.{MayHappen, after_event}
use Rattle.history_rules.specs.Order.{is_request, was_taken}
use Rattle.history_rules.specs.Rounds.{is_held, is_unspent, outstanding_work}
use Rattle.history_rules.specs.State.{State, call_at, phase_at}
use Rattle.history_rules.specs.Time.{at_last, at_time}
use Rattle.history_rules.specs.declared.phase.ActPhase.{ActPhase}
use Rattle.history_rules.specs.declared.phase.ActPhase.TheVariants as phase
use Rattle.history_rules.specs.declared.phase.CallPhase.TheVariants as call
use Rattle.history_rules.specs.declared.phase.Cause.TheVariants as cause
use Rattle.lane_clock.specs.declared.found.Change.TheVariants as change
use Rattle.lane_clock.specs.Changes.{down_of, up_of}
use Rattle.lane_logs.specs.ReactorTurns.{lets_go}
use Rattle.execution_laws.proofs.RestLemmas.{is_within}
use Rattle.reactor_turns.proofs.SummingLemmas.{one_if}
use Rattle.reactor_turns.proofs.TakenLemmas.{last-taken, take-taken, tick-taken}
use Rattle.history_merge.proofs.AlikeLemmas.{never}
use Rattle.history_merge.proofs.GuardLemmas.{guards-settled}
use Rattle.history_merge.proofs.KindLemmas.{AreOfKind}
use Rattle.history_merge.proofs.NextCallLemmas.{fresh_next, next_within, uncalled_next}
use Rattle.history_merge.proofs.OrderlyLemmas.{IsExpected, IsInOrder}
use Rattle.history_merge.proofs.WorkLemmas.{back_work, begin_work, call_work, change_by, control_work, done_work, drop_work, end_work, request_work, round_work, stop_work}

-- what asks the reactor is an operation that isn't a control act, or a control act
request_is : (of : ActPhase) → is_request of ≡ true → (of ≡ phase.Requested) ⊎ (of ≡ phase.Asked)
request_is phase.Requested is = inl refl
request_is phase.Asked is = inr refl
request_is other is = absurd (cc)

requested_by : (inline posting operation control : Bool) →
    cond inline phase.Inside (cond posting (phase.Ready code.Ok 0 cause.Posted)
    (cond operation phase.Requested (cond control phase.Asked phase.Absent))) ≡ phase.Requested → operation ≡ true
requested_by true posting operation control is = absurd (cc)
requested_by false true operation control is = absurd (cc)
requested_by false false true control is = refl
requested_by false false false true is = absurd (cc)
requested_by false false false false is = absurd (cc)

asked_by : (inline posting operation control : Bool) →
    cond inline phase.Inside (cond posting (phase.Ready code.Ok 0 cause.Posted)
    (cond operation phase.Requested (cond control phase.Asked phase.Absent))) ≡ phase.Asked → control ≡ true
asked_by true posting operation control is = absurd (cc)
asked_by false true operation control is = absurd (cc)
asked_by false false true control is = absurd (cc)
asked_by false false false true is = refl
asked_by false false false false is = absurd (cc)

apart : (it : Act) → is_operation it ≡ true → is_control it ≡ false
apart (act.Expires timer after) is = absurd (cc)
apart (act.ExpiresAt timer at) is = absurd (cc)
apart (act.Cancel timer) is = absurd (cc)
apart (act.CancelOne timer) is = absurd (cc)
apart (act.Emit slot types) is = absurd (cc)
apart (act.Close stream) is = absurd (cc)
apart (act.Release guard) is = absurd (cc)
apart other is = refl

uncontrolled : (script : ScriptModel) (a : ℕ) → is_act is_operation script a ≡ true → is_act is_control script a ≡ false
uncontrolled script a operates = by_entry (slice_get script.acts a) refl
  where
    by_entry : (found : Option Entry) → slice_get script.acts a ≡ found → is_act is_control script a ≡ false
    by_entry None stands = rw stands refl
    by_entry (Some e) stands =
        let one : is_act is_operation script a ≡ is_operation e.act = rw stands refl in
        let two : is_act is_control script a ≡ is_control e.act = rw stands refl in
        two ∙ apart e.act (sym one ∙ operates)

not_true : (b : Bool) → not b ≡ true → b ≡ false
not_true true is = absurd (cc)
not_true false is = refl

-- the changes of a call and of a take
up_call : (halts : Bool) → up_of (cond halts change.Same change.Up) ≡ one_if (not halts)
up_call true = refl
up_call false = refl

down_call : (halts : Bool) → down_of (cond halts change.Same change.Up) ≡ 0
down_call true = refl
down_call false = refl

up_take : (control goes : Bool) → up_of (cond control (cond goes change.DownTwo change.Down) change.Same) ≡ 0
up_take true true = refl
up_take true false = refl
up_take false goes = refl

down_control : (control goes : Bool) → control ≡ true →
    down_of (cond control (cond goes change.DownTwo change.Down) change.Same) ≡ 1 + one_if goes
down_control true true is = refl
down_control true false is = refl
down_control false goes is = absurd (cc)

down_request : (control goes : Bool) → control ≡ false →
    down_of (cond control (cond goes change.DownTwo change.Down) change.Same) ≡ 0
down_request true goes isnt = absurd (cc)
down_request false goes isnt = refl

module _ (script : ScriptModel) (well : IsWellFormed script) (told : Bool) (s : State) (order : IsInOrder script s.context)
    (kinds : AreOfKind script s.context.acts)
    (untaken : (n : ℕ) → call_at s.context n ≡ call.Uncalled → was_taken s.reactor n ≡ false)
    (marks : length s.reactor.taken ≡ length script.acts) where
  -- the work after an event is that before it with its change
  abbrev Works : Event → Type 0
  Works shown =
      outstanding_work (after_event script told s shown) + down_of (change_by script s.reactor shown)
      ≡ outstanding_work s + up_of (change_by script s.reactor shown)

  took : (a : ℕ) → (phase_at s.context a ≡ phase.Requested) ⊎ (phase_at s.context a ≡ phase.Asked) →
      was_taken s.reactor a ≡ false → Works (event.Take a)
  took a (inl asked) fresh =
      let within = is_within s.context a (λ absent. let wrong : phase.Requested ≡ phase.Absent = sym asked ∙ absent in cc) in
      let isnt : is_act is_control script a ≡ false =
      uncontrolled script a
      (requested_by (is_inline script a) (is_act is_posting script a) (is_act is_operation script a)
      (is_act is_control script a) (sym ((kinds a).asked (ap is_request asked)) ∙ asked)) in
      let all =
      request_work script told s a within (omega (arith, marks, order.size)) (take-taken script told s.reactor a well) fresh
      asked isnt in
      let up = up_take (is_act is_control script a) (lets_go script s.reactor a) in
      let down = down_request (is_act is_control script a) (lets_go script s.reactor a) isnt in
      omega (arith, all, up, down)
  took a (inr asked) fresh =
      let within = is_within s.context a (λ absent. let wrong : phase.Asked ≡ phase.Absent = sym asked ∙ absent in cc) in
      let is : is_act is_control script a ≡ true =
      asked_by (is_inline script a) (is_act is_posting script a) (is_act is_operation script a)
      (is_act is_control script a) (sym ((kinds a).asked (ap is_request asked)) ∙ asked) in
      let all =
      control_work script told s a within (omega (arith, marks, order.size)) (take-taken script told s.reactor a well) fresh
      asked in
      let up = up_take (is_act is_control script a) (lets_go script s.reactor a) in
      let down = down_control (is_act is_control script a) (lets_go script s.reactor a) is in
      omega (arith, all, up, down)

  pub work_after : (shown : Event) → MayHappen script told s shown → IsExpected s.context shown → Works shown
  work_after (event.Call a) may expected =
      let within = next_within script well s.context order s.reactor.failed a may in
      let all =
      call_work script told s a (omega (arith, within, order.size)) within
      (fresh_next script well s.context order s.reactor.failed a may)
      (untaken a (uncalled_next script well s.context order s.reactor.failed a may)) in
      let up = up_call (stops script a) in
      let down = down_call (stops script a) in
      omega (arith, all, up, down)
  work_after (event.Stop (Some a)) may expected = let all = stop_work script told s a in omega (arith, all)
  work_after (event.Stop None) may expected =
      let all = round_work script told s (event.Stop None) refl refl refl in omega (arith, all)
  work_after (event.Back a) may expected = let all = back_work script told s a in omega (arith, all)
  work_after (event.Begin o given size) may expected =
      let all = begin_work script told s o given size may in omega (arith, all)
  work_after (event.End o mark) may expected =
      let within =
      is_within s.context o
      (λ absent. never (has_finished script o (phase_at s.context o)) (ap (has_finished script o) absent) may) in
      let all = end_work script told s o mark within may in omega (arith, all)
  work_after (event.Take a) may expected =
      let parts = and_parts (is_request (phase_at s.context a)) (not (was_taken s.reactor a)) may.untaken in
      took a (request_is (phase_at s.context a) parts.0) (not_true (was_taken s.reactor a) parts.1)
  work_after (event.Done o given size) may expected =
      let all = done_work script told s o given size expected in omega (arith, all)
  work_after (event.Tick now) may expected =
      let all =
      round_work script told s (event.Tick now) (tick-taken script told s.reactor now)
      (ap (count_by is_held) (guards-settled told (at_time script told now s.reactor))) refl in
      omega (arith, all)
  work_after event.Last may expected =
      let all =
      round_work script told s event.Last (last-taken told s.reactor)
      (ap (count_by is_held) (guards-settled told (at_last told s.reactor))) refl in
      omega (arith, all)
  work_after event.Fault may expected = let all = round_work script told s event.Fault refl refl refl in omega (arith, all)
  work_after event.Ended may expected = let all = round_work script told s event.Ended refl refl refl in omega (arith, all)
  work_after event.Stopped may expected =
      let all = round_work script told s event.Stopped refl refl refl in omega (arith, all)
  work_after event.Polled may expected = let all = round_work script told s event.Polled refl refl refl in omega (arith, all)
  work_after event.Restart may expected =
      let all = round_work script told s event.Restart refl refl refl in omega (arith, all)
  work_after (event.Dropped o mark) may expected =
      let within =
      is_within s.context o (λ absent. never (is_unspent (phase_at s.context o)) (ap is_unspent absent) may.next.left) in
      let all = drop_work script told s o mark within may.next.left in omega (arith, all)
