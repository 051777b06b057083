-- While the context isn't stopped each lane may begin any number; and a stop that goes on has stopped it. Each event keeps
-- it, a restart where no stop goes on.
use Rattle.std.proofs.Common.{◌≡◌, ℕ, zero, suc, Bool, true, false, cond, List, ◌∷◌, None, Some, length, map, replicate, set, get_or, refl, sym, ap, subst, ◌∙◌}
use Rattle.std.specs.List.{slice_set}
use Rattle.std.specs.Option.{unwrap_or}
use Rattle.std.proofs.Math.ListN.{length-set}
use Rattle.std.proofs.lemmas.List.{length-map, length-replicate}
use Rattle.asio_types.specs.Code.{class_of_code}
use Rattle.asio_types.specs.declared.event.Event.{Event}
use Rattle.asio_types.specs.declared.event.Event.TheVariants as event
use Rattle.asio_types.specs.declared.number.Lane.{Lane}
use Rattle.asio_types.specs.declared.number.Lane.TheVariants as lane
use Rattle.session_script.specs.Lanes.{is_inline, lane_of}
use Rattle.session_script.specs.Script.{Place, ScriptModel, is_stop, parent_of}
use Rattle.history_rules.specs.Calls.{MayReturn, accepted, has_stopped, is_call_done, progressed, returned, with_progress}
use Rattle.history_rules.specs.Executions.{begun}
use Rattle.history_rules.specs.Kinds.{is_act}
use Rattle.history_rules.specs.Legal.{MayHappen, context_after}
use Rattle.history_rules.specs.State.{Allowances, ContextState, State, act_at, all_lanes, call_at, first_context, no_progress, phase_at, with_call, with_phase}
use Rattle.history_rules.specs.Stopping.{allowance_of, at_most_one, less_one, with_allowance}
use Rattle.history_rules.specs.declared.phase.ActPhase.{ActPhase}
use Rattle.history_rules.specs.declared.phase.ActPhase.TheVariants as phase
use Rattle.history_rules.specs.declared.phase.ActState.{ActState}
use Rattle.history_rules.specs.declared.phase.Allowance.{Allowance}
use Rattle.history_rules.specs.declared.phase.Allowance.TheVariants as allowance
use Rattle.history_rules.specs.declared.phase.CallPhase.{CallPhase}
use Rattle.history_rules.specs.declared.phase.CallPhase.TheVariants as call
use Rattle.history_rules.specs.declared.phase.Cause.TheVariants as cause
use Rattle.history_rules.specs.declared.phase.Step.{Step}
use Rattle.history_rules.specs.declared.phase.Step.TheVariants as step
use Rattle.execution_laws.specs.Lanes.{IsFreeUnlessStopped}
use Rattle.execution_laws.proofs.FreeLemmas.{free_restart}
use Rattle.history_merge.proofs.AlikeLemmas.{never}
use Rattle.history_merge.proofs.EachActLemmas.{Each, right_set}
use Rattle.history_merge.proofs.SoloLemmas.{all_fresh}
use Rattle.history_merge.proofs.FrameLemmas.{RoundPart, acts_limited, acts_spent, allowances-after, allowed_after, limited_to, part-after, round_after, round_part, spent}

-- no act's stop goes on that didn't
pub record NoneStops (n : ℕ) (x y : ActState) : Type 0 where
  pub before : has_stopped y.call ≡ true → has_stopped x.call ≡ true

returned_none : (now : ℕ) (of : CallPhase) → has_stopped (returned now of) ≡ true → ⊥
returned_none now call.Uncalled is = absurd (cc)
returned_none now (call.Open called) is = absurd (cc)
returned_none now (call.Stopping called) is = absurd (cc)
returned_none now (call.Back called back) is = absurd (cc)

module _ (script : ScriptModel) (s : ContextState) where
  base_stops : Each NoneStops s.acts s.acts
  base_stops n = record { before = λ is. is }

  set_stops : (ys : List ActState) (a : ℕ) (y : ActState) → Each NoneStops s.acts ys →
      (has_stopped y.call ≡ true → has_stopped (call_at s a) ≡ true) → Each NoneStops s.acts (slice_set ys a y)
  set_stops ys a y each none = right_set NoneStops s.acts ys a y each (record { before = none })

  progress_stops : (place : Place) (step : Step) (t : ContextState) → Each NoneStops s.acts t.acts →
      Each NoneStops s.acts (with_progress place step t).acts
  progress_stops None step t each = each
  progress_stops (Some at) step t each =
      set_stops t.acts at.0 (record (act_at t at.0) { phase = progressed step (phase_at t at.0) }) each (each at.0).before

  phase_stops : (o : ℕ) (to : ActPhase) → Each NoneStops s.acts (with_phase s o to).acts
  phase_stops o to = set_stops s.acts o (record (act_at s o) { phase = to }) base_stops (λ is. is)

  call_stops : (a : ℕ) → Each NoneStops s.acts (context_after script s (event.Call a)).acts
  call_stops a =
      set_stops (with_progress (parent_of script a) step.Made s).acts a
      (record { call = call.Open s.events; phase = accepted script a })
      (progress_stops (parent_of script a) step.Made s base_stops) (λ is. absurd (cc))

  back_stops : (a : ℕ) → Each NoneStops s.acts (context_after script s (event.Back a)).acts
  back_stops a =
      let back : ContextState = with_call s a (returned s.events (call_at s a)) in
      subst (Each NoneStops s.acts)
      (sym (acts_limited script (parent_of script a) a (is_act is_stop script a)
      (with_progress (parent_of script a) step.Back back)))
      (progress_stops (parent_of script a) step.Back back
      (set_stops s.acts a (record (act_at s a) { call = returned s.events (call_at s a) }) base_stops
      (λ is. absurd (returned_none s.events (call_at s a) is))))

-- what begins on a free lane leaves it free
set-free : (n strand : ℕ) →
    set (replicate n allowance.Free) strand (less_one (get_or (replicate n allowance.Free) strand allowance.Nothing))
    ≡ replicate n allowance.Free
set-free zero strand = refl
set-free (suc n) zero = refl
set-free (suc n) (suc strand) = ap (λ rest. allowance.Free ∷ rest) (set-free n strand)

spent-free : (at : Lane) (n : ℕ) → spent at (all_lanes allowance.Free n) ≡ all_lanes allowance.Free n
spent-free (lane.Strand strand) n =
    ap (λ (strands : List Allowance). record (all_lanes allowance.Free n) { strands = strands }) (set-free n strand)
spent-free (lane.Own op) n = refl
spent-free lane.Reactor n = refl

-- and no lane comes or goes
with-lanes : (at : Lane) (new : Allowance) (allowances : Allowances) →
    length (with_allowance at new allowances).strands ≡ length allowances.strands
with-lanes (lane.Strand strand) new allowances = length-set allowances.strands strand new
with-lanes (lane.Own op) new allowances = refl
with-lanes lane.Reactor new allowances = refl

limited-lanes : (script : ScriptModel) (a : ℕ) (place : Place) (stops : Bool) (allowances : Allowances) →
    length (limited_to script a place stops allowances).strands ≡ length allowances.strands
limited-lanes script a place false allowances = refl
limited-lanes script a None true allowances = length-map allowances.strands (λ _. allowance.Nothing)
limited-lanes script a (Some at) true allowances =
    with-lanes (lane_of script a) allowance.Nothing (record {
      strands = map at_most_one allowances.strands;
      own = at_most_one allowances.own;
      reactor = at_most_one allowances.reactor;
    })
    ∙ length-map allowances.strands at_most_one

begun-lanes : (script : ScriptModel) (o : ℕ) (inline : Bool) (allowances : Allowances) →
    length (cond inline allowances (spent (lane_of script o) allowances)).strands ≡ length allowances.strands
begun-lanes script o true allowances = refl
begun-lanes script o false allowances =
    with-lanes (lane_of script o) (less_one (allowance_of allowances (lane_of script o))) allowances

pub lanes-after : (script : ScriptModel) (shown : Event) (allowances : Allowances) →
    length (allowed_after script shown allowances).strands ≡ length allowances.strands
lanes-after script (event.Back a) allowances =
    limited-lanes script a (parent_of script a) (is_act is_stop script a) allowances
lanes-after script (event.Begin o given size) allowances = begun-lanes script o (is_inline script o) allowances
lanes-after script (event.Take a) allowances = refl
lanes-after script (event.Tick now) allowances = refl
lanes-after script event.Last allowances = refl
lanes-after script event.Ended allowances = length-map allowances.strands (λ _. allowance.Nothing)
lanes-after script event.Stopped allowances = length-map allowances.strands (λ _. allowance.Nothing)
lanes-after script event.Restart allowances = length-map allowances.strands (λ _. allowance.Free)
lanes-after script other allowances = refl

-- A context that isn't stopped lets each lane begin any number, and where a stop goes on it is stopped
pub record IsFreed (script : ScriptModel) (s : ContextState) : Type 0 where
  pub free : IsFreeUnlessStopped script s
  pub halting : (n : ℕ) → has_stopped (call_at s n) ≡ true → s.stopped ≡ true

-- the event restarts the context
abbrev pub IsRestart : Event → Type 0
IsRestart event.Restart = Unit {0}
IsRestart _ = ⊥

module _ (script : ScriptModel) (told : Bool) (s : State) (were : IsFreed script s.context) where
  abbrev old : ContextState
  old = s.context

  abbrev new : Event → ContextState
  new shown = context_after script s.context shown

  now_stopped : (shown : Event) → (new shown).stopped ≡ (round_after shown (round_part old)).stopped
  now_stopped shown = ap (λ (part : RoundPart). part.stopped) (part-after script old shown)

  size : (shown : Event) → length (new shown).allowances.strands ≡ script.strands
  size shown =
      ap (λ (a : Allowances). length a.strands) (allowances-after script old shown)
      ∙ (lanes-after script shown old.allowances ∙ were.free.lanes)

  -- what leaves both
  same : (shown : Event) → (round_after shown (round_part old)).stopped ≡ old.stopped →
      (old.stopped ≡ false → allowed_after script shown old.allowances ≡ all_lanes allowance.Free script.strands) →
      Each NoneStops old.acts (new shown).acts → IsFreed script (new shown)
  same shown still allowed each = record {
    free = record {
      lanes = size shown;
      free = λ going.
          allowances-after script old shown ∙ allowed (sym (now_stopped shown ∙ still) ∙ going);
    };
    halting = λ n halts. now_stopped shown ∙ (still ∙ were.halting n ((each n).before halts));
  }

  -- what stops it
  stops : (shown : Event) → (new shown).stopped ≡ true → IsFreed script (new shown)
  stops shown stopped = record {
    free = record {
      lanes = size shown;
      free = λ going. absurd (let wrong : true ≡ false = sym stopped ∙ going in cc);
    };
    halting = λ n halts. stopped;
  }

  returned_free : (a : ℕ) (place : Place) (halts : Bool) → is_act is_stop script a ≡ halts → MayReturn script old a →
      old.stopped ≡ false → limited_to script a place halts old.allowances ≡ all_lanes allowance.Free script.strands
  returned_free a place false is may going = were.free.free going
  returned_free a place true is may going =
      let stopping : has_stopped (call_at old a) ≡ true =
      sym (ap (λ (b : Bool). is_call_done b (is_inline script a) (act_at old a)) is) ∙ may in
      absurd (never old.stopped going (were.halting a stopping))

  begun_free : (o : ℕ) (inline : Bool) → old.stopped ≡ false →
      cond inline old.allowances (spent (lane_of script o) old.allowances) ≡ all_lanes allowance.Free script.strands
  begun_free o true going = were.free.free going
  begun_free o false going = spent_free (lane_of script o) going
    where
      spent_free : (at : Lane) → old.stopped ≡ false → spent at old.allowances ≡ all_lanes allowance.Free script.strands
      spent_free at going = ap (spent at) (were.free.free going) ∙ spent-free at script.strands

  turn_free : old.stopped ≡ false → spent lane.Reactor old.allowances ≡ all_lanes allowance.Free script.strands
  turn_free going = ap (spent lane.Reactor) (were.free.free going)

  -- each event keeps it
  pub freed_after : (shown : Event) → MayHappen script told s shown →
      (IsRestart shown → (n : ℕ) → has_stopped (call_at s.context n) ≡ false) → IsFreed script (new shown)
  freed_after (event.Call a) may none = same (event.Call a) refl (λ going. were.free.free going) (call_stops script old a)
  freed_after (event.Back a) may none =
      same (event.Back a) refl (λ going. returned_free a (parent_of script a) (is_act is_stop script a) refl may going)
      (back_stops script old a)
  freed_after (event.Stop (Some a)) may none = stops (event.Stop (Some a)) refl
  freed_after (event.Stop None) may none = stops (event.Stop None) refl
  freed_after (event.Begin o given size) may none =
      same (event.Begin o given size) refl (λ going. begun_free o (is_inline script o) going)
      (subst (Each NoneStops old.acts) (sym (acts_spent (is_inline script o) (lane_of script o) (begun old o given)))
      (phase_stops script old o (phase.Running (class_of_code given) no_progress)))
  freed_after (event.End o mark) may none =
      same (event.End o mark) refl (λ going. were.free.free going) (phase_stops script old o phase.Ended)
  freed_after (event.Done o given size) may none =
      same (event.Done o given size) refl (λ going. were.free.free going)
      (phase_stops script old o (phase.Ready given size (cause.Completed old.events (unwrap_or old.turn 0))))
  freed_after (event.Dropped o mark) may none =
      same (event.Dropped o mark) refl (λ going. were.free.free going) (phase_stops script old o phase.Dropped)
  freed_after (event.Take a) may none = same (event.Take a) refl turn_free (base_stops script old)
  freed_after (event.Tick now) may none = same (event.Tick now) refl turn_free (base_stops script old)
  freed_after event.Last may none = same event.Last refl turn_free (base_stops script old)
  freed_after event.Fault may none = stops event.Fault refl
  freed_after event.Ended may none = stops event.Ended refl
  freed_after event.Stopped may none = stops event.Stopped refl
  freed_after event.Polled may none = same event.Polled refl (λ going. were.free.free going) (base_stops script old)
  freed_after event.Restart may none = record {
    free = free_restart script old were.free.lanes;
    halting = λ n halts. absurd (never (has_stopped (call_at old n)) (none tt n) halts);
  }

-- nothing was done at first
pub first_freed : (script : ScriptModel) → IsFreed script (first_context script)
first_freed script = record {
  free = record { lanes = length-replicate script.strands allowance.Free; free = λ going. refl };
  halting = λ n halts.
      absurd (never (has_stopped (call_at (first_context script) n))
      (ap (λ (act : ActState). has_stopped act.call) (all_fresh (length script.acts) n)) halts);
}
