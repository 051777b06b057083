-- What acts may still show beside what the reactor does: each event of an act leaves one less.
use Rattle.std.proofs.Common.{◌≡◌, ℕ, ◌+◌, ◌*◌, ◌<◌, ◌≤◌, Bool, true, false, cond, List, Option, None, Some, inl, inr, length, refl, sym, ap, subst, ◌∙◌, arith}
use Rattle.std.specs.Prelude.{not, slice_get}
use Rattle.std.specs.List.{slice_set}
use Rattle.std.specs.Option.{unwrap_or}
use Rattle.std.proofs.lemmas.Bool.{cases_eq, eq-eqb, ne_eqb}
use Rattle.std.proofs.lemmas.List.{get_or-set_other, get_or-set_same}
use Rattle.asio_types.specs.Code.{class_of_code}
use Rattle.asio_types.specs.declared.code.Code.{Code}
use Rattle.asio_types.specs.declared.event.Event.{Event}
use Rattle.asio_types.specs.declared.event.Event.TheVariants as event
use Rattle.session_script.specs.Lanes.{is_inline, lane_of}
use Rattle.session_script.specs.Script.{Entry, ScriptModel, is_stop, parent_of, stops}
use Rattle.session_script.specs.WellFormed.{IsWellFormed}
use Rattle.history_rules.specs.Calls.{accepted, is_call_done, is_made, is_open, progressed, returned, stopping, with_progress}
use Rattle.history_rules.specs.Executions.{MayBegin, begun, has_finished}
use Rattle.history_rules.specs.Kinds.{is_act}
use Rattle.history_rules.specs.Legal.{MayHappen, context_after}
use Rattle.history_rules.specs.Rounds.{is_outstanding, is_unspent}
use Rattle.history_rules.specs.State.{ContextState, State, act_at, call_at, fresh, no_progress, phase_at, with_call}
use Rattle.history_rules.specs.declared.phase.ActPhase.{ActPhase}
use Rattle.history_rules.specs.declared.phase.ActPhase.TheVariants as phase
use Rattle.history_rules.specs.declared.phase.ActState.{ActState}
use Rattle.history_rules.specs.declared.phase.CallPhase.{CallPhase}
use Rattle.history_rules.specs.declared.phase.CallPhase.TheVariants as call
use Rattle.history_rules.specs.declared.phase.Cause.TheVariants as cause
use Rattle.history_rules.specs.declared.phase.Step.{Step}
use Rattle.history_rules.specs.declared.phase.Step.TheVariants as step
use Rattle.execution_laws.proofs.RestLemmas.{is_within}
use Rattle.reactor_turns.proofs.SummingLemmas.{one_if, only, summed, summed-both, summed-less, summed-only}
use Rattle.history_merge.proofs.AlikeLemmas.{never}
use Rattle.history_merge.proofs.EachActLemmas.{Each, act_in, progress_each, right_set}
use Rattle.history_merge.proofs.FrameLemmas.{acts_limited, acts_spent, length-progress}
use Rattle.history_merge.proofs.NextCallLemmas.{fresh_next, next_within, open_within}
use Rattle.history_merge.proofs.OrderlyLemmas.{IsExpected, IsInOrder}
use Rattle.history_merge.proofs.WorkLemmas.{accepted_out}

-- a call shows itself, its stop and its return, and what it accepts
abbrev pub call_shows : Bool → CallPhase → ℕ
call_shows halts call.Uncalled = 4
call_shows halts (call.Open called) = 1 + one_if halts
call_shows halts (call.Stopping called) = 1
call_shows halts (call.Back called back) = 0

-- a handler begins and ends, or is destroyed
abbrev pub handler_shows : ActPhase → ℕ
handler_shows phase.Inside = 2
handler_shows phase.Requested = 2
handler_shows (phase.Ready code size why) = 2
handler_shows (phase.Running class progress) = 1
handler_shows _ = 0

abbrev pub act_shows : ScriptModel → ℕ → ActState → ℕ
act_shows script n act = call_shows (stops script n) act.call + handler_shows act.phase

abbrev pub acts_show : ScriptModel → ContextState → ℕ
acts_show script s = summed (λ n. act_shows script n (act_at s n)) (length script.acts)

-- an act shows no more than it did, or that act one less
abbrev NoMore : ScriptModel → ℕ → ActState → ActState → Type 0
NoMore script n x y = act_shows script n y ≤ act_shows script n x

abbrev OneLess : ScriptModel → ℕ → ℕ → ActState → ActState → Type 0
OneLess script a n x y = act_shows script n y + only a 1 n ≤ act_shows script n x

handler_step : (step : Step) (of : ActPhase) → handler_shows (progressed step of) ≡ handler_shows of
handler_step step (phase.Running class progress) = refl
handler_step step other = refl

-- what a call accepts
accepts : (of : ActPhase) → handler_shows of ≤ 2 * one_if (is_outstanding of false)
accepts phase.Absent = omega arith
accepts phase.Asked = omega arith
accepts phase.Inside = omega arith
accepts phase.Requested = omega arith
accepts (phase.Ready code size why) = omega arith
accepts (phase.Running class progress) = omega arith
accepts phase.Ended = omega arith
accepts phase.Dropped = omega arith

one_of : (b : Bool) → one_if b + one_if (not b) ≡ 1
one_of true = refl
one_of false = refl

begin_shows : (script : ScriptModel) (s : ContextState) (o : ℕ) (given : Code) (size : ℕ) → MayBegin script s o given size →
    handler_shows (phase_at s o) ≡ 2
begin_shows script s o given size (inl outside) = ap handler_shows outside.ready.1
begin_shows script s o given size (inr within) = ap handler_shows within.inside

end_shows : (script : ScriptModel) (o : ℕ) (of : ActPhase) → has_finished script o of ≡ true → handler_shows of ≡ 1
end_shows script o (phase.Running class progress) is = refl
end_shows script o other is = absurd (cc)

pub unspent_shows : (of : ActPhase) → one_if (is_unspent of) ≤ handler_shows of
unspent_shows phase.Absent = omega arith
unspent_shows phase.Asked = omega arith
unspent_shows phase.Inside = omega arith
unspent_shows phase.Requested = omega arith
unspent_shows (phase.Ready code size why) = omega arith
unspent_shows (phase.Running class progress) = omega arith
unspent_shows phase.Ended = omega arith
unspent_shows phase.Dropped = omega arith

-- a call that is open stops and returns
stop_shows : (of : CallPhase) → is_made of ≡ true → call_shows true (stopping of) + 1 ≤ call_shows true of
stop_shows (call.Open called) is = omega arith
stop_shows other is = absurd (cc)

back_shows : (halts : Bool) (now : ℕ) (of : CallPhase) → is_open of ≡ true →
    call_shows halts (returned now of) + 1 ≤ call_shows halts of
back_shows halts now call.Uncalled is = absurd (cc)
back_shows halts now (call.Open called) is = omega arith
back_shows halts now (call.Stopping called) is = omega arith
back_shows halts now (call.Back called back) is = absurd (cc)

done_open : (halts inside : Bool) (act : ActState) → is_call_done halts inside act ≡ true → is_open act.call ≡ true
done_open halts inside act is = by_call halts inside act.call act.phase is
  where
    by_call : (halts inside : Bool) (of : CallPhase) (at : ActPhase) →
        is_call_done halts inside (record { call = of; phase = at }) ≡ true → is_open of ≡ true
    by_call halts inside (call.Open called) at is = refl
    by_call halts inside (call.Stopping called) at is = refl
    by_call true inside call.Uncalled at is = absurd (cc)
    by_call false inside call.Uncalled at is = absurd (cc)
    by_call true inside (call.Back called back) at is = absurd (cc)
    by_call false inside (call.Back called back) at is = absurd (cc)

made_open : (of : CallPhase) → is_made of ≡ true → is_open of ≡ true
made_open (call.Open called) is = refl
made_open other is = absurd (cc)

halting : (script : ScriptModel) (a : ℕ) → is_act is_stop script a ≡ true → stops script a ≡ true
halting script a is = by_entry (slice_get script.acts a) refl
  where
    by_entry : (found : Option Entry) → slice_get script.acts a ≡ found → stops script a ≡ true
    by_entry None stands =
        absurd (let none : is_act is_stop script a ≡ false = rw stands refl in never (is_act is_stop script a) none is)
    by_entry (Some e) stands =
        let one : is_act is_stop script a ≡ is_stop e.act = rw stands refl in
        let two : stops script a ≡ is_stop e.act = rw stands refl in
        two ∙ (sym one ∙ is)

module _ (script : ScriptModel) where
  same_shows : (acts : List ActState) → Each (NoMore script) acts acts
  same_shows acts n = omega arith

  more_step : (n : ℕ) (step : Step) (x y : ActState) → NoMore script n x y →
      NoMore script n x (record y { phase = progressed step y.phase })
  more_step n step x y less = let same = handler_step step y.phase in omega (arith, same, less)

  less_step : (a n : ℕ) (step : Step) (x y : ActState) → OneLess script a n x y →
      OneLess script a n x (record y { phase = progressed step y.phase })
  less_step a n step x y less = let same = handler_step step y.phase in omega (arith, same, less)

  -- one act comes to what shows one less
  set_less : (xs ys : List ActState) (a : ℕ) (y : ActState) → Each (NoMore script) xs ys → a < length ys →
      act_shows script a y + 1 ≤ act_shows script a (act_in xs a) → Each (OneLess script a) xs (slice_set ys a y)
  set_less xs ys a y each within less n = elim (cases_eq n a) [
    | inl same ↦
        subst (λ n. OneLess script a n (act_in xs n) (act_in (slice_set ys a y) n)) (sym same)
        (let here = ap (act_shows script a) (get_or-set_same ys a y fresh within) in
        let one : only a 1 a ≡ 1 = ap (λ b. cond b 1 0) (eq-eqb a a refl) in omega (arith, here, one, less))
    | inr other ↦
        let there = ap (act_shows script n) (get_or-set_other ys a n y fresh other) in
        let none : only a 1 n ≡ 0 = ap (λ b. cond b 1 0) (ne_eqb a n (λ is. other (sym is))) in
        let before = each n in
        omega (arith, there, none, before)
  ]

  no_more : (s t : ContextState) → Each (NoMore script) s.acts t.acts → acts_show script t ≤ acts_show script s
  no_more s t each =
      summed-less (λ n. act_shows script n (act_at t n)) (λ n. act_shows script n (act_at s n)) (length script.acts) each

  one_less : (s t : ContextState) (a : ℕ) → a < length script.acts → Each (OneLess script a) s.acts t.acts →
      acts_show script t + 1 ≤ acts_show script s
  one_less s t a within each =
      let one = summed-only a 1 (length script.acts) within in
      let both = summed-both (λ n. act_shows script n (act_at t n)) (only a 1) (length script.acts) in
      let less =
      summed-less (λ n. act_shows script n (act_at t n) + only a 1 n) (λ n. act_shows script n (act_at s n))
      (length script.acts) each in
      omega (arith, one, both, less)

-- an event of an act
abbrev pub is_of_act : Event → Bool
is_of_act (event.Call a) = true
is_of_act (event.Stop (Some a)) = true
is_of_act (event.Back a) = true
is_of_act (event.Begin o code size) = true
is_of_act (event.End o mark) = true
is_of_act (event.Dropped o mark) = true
is_of_act _ = false

module _ (script : ScriptModel) (well : IsWellFormed script) (told : Bool) (s : State)
    (order : IsInOrder script s.context) where
  abbrev LessBy : Event → ℕ → Type 0
  LessBy shown a =
      (a < length script.acts) × Each (OneLess script a) s.context.acts (context_after script s.context shown).acts

  called : (a : ℕ) → MayHappen script told s (event.Call a) → LessBy (event.Call a) a
  called a may =
      let within = next_within script well s.context order s.reactor.failed a may in
      let new : ActState = record { call = call.Open s.context.events; phase = accepted script a } in
      let first = ap (act_shows script a) (fresh_next script well s.context order s.reactor.failed a may) in
      let takes = accepts (accepted script a) in
      let out = ap one_if (accepted_out script a within) in
      let one = one_of (stops script a) in (
        within,
        set_less script s.context.acts (with_progress (parent_of script a) step.Made s.context).acts a new
            (progress_each (NoMore script) (more_step script) (parent_of script a) step.Made s.context.acts s.context
            (same_shows script s.context.acts))
            (omega (arith, within, order.size, length-progress (parent_of script a) step.Made s.context))
            (omega (arith, first, takes, out, one)),
      )

  stopped : (a : ℕ) → MayHappen script told s (event.Stop (Some a)) → LessBy (event.Stop (Some a)) a
  stopped a may =
      let within = open_within s.context a (made_open (call_at s.context a) may.made) in
      let less = stop_shows (call_at s.context a) may.made in
      let halts = halting script a may.stops in
      let before = ap (λ b. call_shows b (call_at s.context a)) halts in
      let after = ap (λ b. call_shows b (stopping (call_at s.context a))) halts in (
        omega (arith, within, order.size),
        set_less script s.context.acts s.context.acts a
            (record (act_at s.context a) { call = stopping (call_at s.context a) }) (same_shows script s.context.acts) within
            (omega (arith, less, before, after)),
      )

  returns : (a : ℕ) → MayHappen script told s (event.Back a) → LessBy (event.Back a) a
  returns a may =
      let is : is_open (call_at s.context a) ≡ true =
      done_open (is_act is_stop script a) (is_inline script a) (act_at s.context a) may in
      let within = open_within s.context a is in
      let to : CallPhase = returned s.context.events (call_at s.context a) in
      let back : ContextState = with_call s.context a to in
      let less = back_shows (stops script a) s.context.events (call_at s.context a) is in (
        omega (arith, within, order.size),
        subst (Each (OneLess script a) s.context.acts)
            (sym (acts_limited script (parent_of script a) a (is_act is_stop script a)
            (with_progress (parent_of script a) step.Back back)))
            (progress_each (OneLess script a) (less_step script a) (parent_of script a) step.Back s.context.acts back
            (set_less script s.context.acts s.context.acts a (record (act_at s.context a) { call = to })
            (same_shows script s.context.acts) within (omega (arith, less)))),
      )

  -- a handler comes to what shows one less
  comes : (o : ℕ) (to : ActPhase) → o < length s.context.acts →
      handler_shows to + 1 ≤ handler_shows (phase_at s.context o) →
      (o < length script.acts)
      × Each (OneLess script o) s.context.acts (slice_set s.context.acts o (record (act_at s.context o) { phase = to }))
  comes o to within less = (
    omega (arith, within, order.size),
    set_less script s.context.acts s.context.acts o (record (act_at s.context o) { phase = to })
        (same_shows script s.context.acts) within (omega (arith, less)),
  )

  there : (o : ℕ) → 1 ≤ handler_shows (phase_at s.context o) → o < length s.context.acts
  there o shows = is_within s.context o (λ absent. let none = ap handler_shows absent in omega (arith, shows, none))

  begins : (o : ℕ) (given : Code) (size : ℕ) → MayHappen script told s (event.Begin o given size) →
      LessBy (event.Begin o given size) o
  begins o given size may =
      let before = begin_shows script s.context o given size may in
      let less =
      comes o (phase.Running (class_of_code given) no_progress) (there o (omega (arith, before))) (omega (arith, before)) in (
        less.0,
        subst (Each (OneLess script o) s.context.acts)
            (sym (acts_spent (is_inline script o) (lane_of script o) (begun s.context o given))) less.1,
      )

  ends : (o mark : ℕ) → MayHappen script told s (event.End o mark) → LessBy (event.End o mark) o
  ends o mark may =
      let before = end_shows script o (phase_at s.context o) may in
      comes o phase.Ended (there o (omega (arith, before))) (omega (arith, before))

  drops : (o mark : ℕ) → MayHappen script told s (event.Dropped o mark) → LessBy (event.Dropped o mark) o
  drops o mark may =
      let unspent = ap one_if may.next.left in
      let before = unspent_shows (phase_at s.context o) in
      comes o phase.Dropped (there o (omega (arith, unspent, before))) (omega (arith, unspent, before))

  -- what completes is ready in place of requested
  completes : (o : ℕ) (given : Code) (size : ℕ) → phase_at s.context o ≡ phase.Requested →
      Each (NoMore script) s.context.acts (context_after script s.context (event.Done o given size)).acts
  completes o given size asked =
      let before = ap handler_shows asked in
      right_set (NoMore script) s.context.acts s.context.acts o
      (record (act_at s.context o) {
        phase = phase.Ready given size (cause.Completed s.context.events (unwrap_or s.context.turn 0));
      }) (same_shows script s.context.acts) (omega (arith, before))

  by_act : (shown : Event) (a : ℕ) → LessBy shown a →
      acts_show script (context_after script s.context shown) + 1 ≤ acts_show script s.context
  by_act shown a less = one_less script s.context (context_after script s.context shown) a less.0 less.1

  by_none : (shown : Event) → Each (NoMore script) s.context.acts (context_after script s.context shown).acts →
      acts_show script (context_after script s.context shown) + 0 ≤ acts_show script s.context
  by_none shown each =
      let less = no_more script s.context (context_after script s.context shown) each in omega (arith, less)

  -- each event leaves as much, and an event of an act one less
  pub acts_fall : (shown : Event) → MayHappen script told s shown → IsExpected s.context shown →
      acts_show script (context_after script s.context shown) + one_if (is_of_act shown) ≤ acts_show script s.context
  acts_fall (event.Call a) may expected = by_act (event.Call a) a (called a may)
  acts_fall (event.Stop (Some a)) may expected = by_act (event.Stop (Some a)) a (stopped a may)
  acts_fall (event.Stop None) may expected = by_none (event.Stop None) (same_shows script s.context.acts)
  acts_fall (event.Back a) may expected = by_act (event.Back a) a (returns a may)
  acts_fall (event.Begin o given size) may expected = by_act (event.Begin o given size) o (begins o given size may)
  acts_fall (event.End o mark) may expected = by_act (event.End o mark) o (ends o mark may)
  acts_fall (event.Dropped o mark) may expected = by_act (event.Dropped o mark) o (drops o mark may)
  acts_fall (event.Done o given size) may expected = by_none (event.Done o given size) (completes o given size expected)
  acts_fall other may expected = by_none other (same_shows script s.context.acts)
