-- Two beginnings that are alike come to the same state.
use Rattle.std.proofs.Common.{◌≡◌, ◌<◌, ◌≤◌, ◌+◌, ◌⊎◌, inl, inr, ℕ, suc, Bool, true, false, List, [], Some, None, length, take, get_or, arith, ap, refl, sym, subst, cond, set, ◌∙◌}
use Rattle.std.specs.Prelude.{All, not, ◌&&◌, is_some}
use Rattle.std.proofs.lemmas.Bool.{cases_lt}
use Rattle.std.proofs.lemmas.List.{get_or-replicate, get_or_default, get_or_past, length-replicate, same_lists, set-get_or, take_all}
use Rattle.std.proofs.lemmas.List.Elements.{All-get_or, All-map}
use Rattle.asio_types.specs.declared.event.Event.{Event}
use Rattle.asio_types.specs.declared.event.Event.TheVariants as event
use Rattle.asio_types.specs.declared.number.Lane.{Lane}
use Rattle.asio_types.specs.declared.number.Lane.TheVariants as lane
use Rattle.history_rules.specs.Calls.{limited, returned, with_progress}
use Rattle.history_rules.specs.Executions.{begun}
use Rattle.history_rules.specs.Kinds.{is_act}
use Rattle.history_rules.specs.Legal.{IsLegalSoFar, after_event, context_after, reactor_after, state_of}
use Rattle.history_rules.specs.State.{Allowances, ContextState, ReactorHalf, State, act_at, call_at, counted, first_state, fresh, with_call}
use Rattle.history_rules.specs.Stopping.{allowance_of, less_one, spend, with_allowance}
use Rattle.history_rules.specs.declared.phase.ActPhase.{ActPhase}
use Rattle.history_rules.specs.declared.phase.ActState.{ActState}
use Rattle.history_rules.specs.declared.phase.CallPhase.{CallPhase}
use Rattle.history_rules.specs.declared.phase.Allowance.{Allowance}
use Rattle.history_rules.specs.declared.phase.Allowance.TheVariants as allowance
use Rattle.history_rules.specs.declared.phase.Step.{Step}
use Rattle.history_rules.specs.declared.phase.Step.TheVariants as step
use Rattle.session_script.specs.Lanes.{is_inline, lane_of}
use Rattle.session_script.specs.Script.{Place, ScriptModel, is_stop, parent_of}
use Rattle.session_orders.specs.declared.bounds.ReactorKind.{ReactorKind}
use Rattle.session_orders.specs.Same.{AreFree, AreSameDone, MayPair, bare, free_after, is_quiet}
use Rattle.history_book.specs.Replay.{Replayed}
use Rattle.session_orders.specs.Walk.{HasCome}
use Rattle.session_orders.proofs.ComeLemmas.{state_suc}
use Rattle.session_orders.proofs.SizeLemmas.{size_of}

-- the context but for its acts
abbrev bared : ContextState → ContextState
bared s = record s { acts = [] }

-- what an event makes of all but the acts doesn't depend on the acts

progress-bared : (place : Place) (step : Step) (s : ContextState) →
    bared (with_progress place step s) ≡ bared (with_progress place step (bared s))
progress-bared None step s = refl
progress-bared (Some place) step s = refl

limited-bared : (script : ScriptModel) (a : ℕ) (place : Place) (s : ContextState) →
    bared (limited script a place s) ≡ bared (limited script a place (bared s))
limited-bared script a None s = refl
limited-bared script a (Some place) s = refl

stopped-bared : (script : ScriptModel) (a : ℕ) (stops : Bool) (s : ContextState) →
    bared (cond stops (limited script a (parent_of script a) s) s)
    ≡ bared (cond stops (limited script a (parent_of script a) (bared s)) (bared s))
stopped-bared script a true s = limited-bared script a (parent_of script a) s
stopped-bared script a false s = refl

back-bared : (script : ScriptModel) (a : ℕ) (s : ContextState) →
    bared (context_after script s (event.Back a)) ≡ bared (context_after script (bared s) (event.Back a))
back-bared script a s =
    let place = parent_of script a in
    let stops = is_act is_stop script a in
    let L : ContextState → ContextState = λ x. cond stops (limited script a place x) x in
    let called : ContextState = with_call s a (returned s.events (call_at s a)) in
    let other : ContextState = with_call (bared s) a (returned s.events (call_at (bared s) a)) in
    let same : bared (with_progress place step.Back called) ≡ bared (with_progress place step.Back other) =
    progress-bared place step.Back called ∙ sym (progress-bared place step.Back other) in
    ap counted
    (stopped-bared script a stops (with_progress place step.Back called) ∙ ap (λ x. bared (L x)) same
    ∙ sym (stopped-bared script a stops (with_progress place step.Back other)))

begin-bared : (inline : Bool) (lane : Lane) (s : ContextState) (o : ℕ) (x y : ContextState) → bared x ≡ bared y →
    bared (cond inline x (spend lane x)) ≡ bared (cond inline y (spend lane y))
begin-bared true lane s o x y same = same
begin-bared false lane s o x y same =
    let f : ContextState → ContextState =
    λ c. record c { allowances = with_allowance lane (less_one (allowance_of c.allowances lane)) c.allowances } in
    ap f same

context-bared : (script : ScriptModel) (s : ContextState) (event : Event) →
    bared (context_after script s event) ≡ bared (context_after script (bared s) event)
context-bared script s (event.Call a) = ap counted (progress-bared (parent_of script a) step.Made s)
context-bared script s (event.Back a) = back-bared script a s
context-bared script s (event.Stop (Some a)) = refl
context-bared script s (event.Stop None) = refl
context-bared script s (event.Begin o code size) =
    ap counted
    (begin-bared (is_inline script o) (lane_of script o) s o (begun s o code) (begun (bared s) o code) refl)
context-bared script s (event.End o mark) = refl
context-bared script s (event.Take a) = refl
context-bared script s (event.Done o code size) = refl
context-bared script s (event.Tick now) = refl
context-bared script s event.Last = refl
context-bared script s event.Fault = refl
context-bared script s event.Ended = refl
context-bared script s event.Stopped = refl
context-bared script s event.Polled = refl
context-bared script s event.Restart = refl
context-bared script s (event.Dropped o mark) = refl

-- where each lane is free, a beginning leaves the lanes as they are

stays_free : (strands : List Allowance) (n : ℕ) → All (λ allowed. allowed ≡ allowance.Free) strands →
    less_one (get_or strands n allowance.Nothing) ≡ get_or strands n allowance.Nothing
stays_free strands n free =
    elim (cases_lt n (length strands)) [
      | inl below ↦
          let here : get_or strands n allowance.Nothing ≡ allowance.Free = free n allowance.Nothing below in
          ap less_one here ∙ sym here
      | inr past ↦
          let here : get_or strands n allowance.Nothing ≡ allowance.Nothing =
          get_or_past strands n allowance.Nothing past in ap less_one here ∙ sym here
    ]

spent_free : (lane : Lane) (allowances : Allowances) → AreFree allowances →
    with_allowance lane (less_one (allowance_of allowances lane)) allowances ≡ allowances
spent_free (lane.Strand n) allowances free =
    let f : List Allowance → Allowances = λ xs. record allowances { strands = xs } in
    ap f
    (ap (set allowances.strands n) (stays_free allowances.strands n free.strands)
    ∙ set-get_or allowances.strands n allowance.Nothing)
spent_free (lane.Own o) allowances free = refl
spent_free lane.Reactor allowances free =
    let f : Allowance → Allowances = λ r. record allowances { reactor = r } in
    ap f (ap less_one free.reactor ∙ sym free.reactor)

wrong_bool : {A : Type 0} → false ≡ true → A
wrong_bool wrong = cc

both_hold : (first second : Bool) → (first && second) ≡ true → (first ≡ true) × (second ≡ true)
both_hold true true both = (refl, refl)
both_hold true false both = wrong_bool both
both_hold false second both = wrong_bool both

hold_both : (first second : Bool) → first ≡ true → second ≡ true → (first && second) ≡ true
hold_both true true one other = refl
hold_both true false one other = wrong_bool other
hold_both false second one other = wrong_bool one

-- a quiet event changes nothing else

progress-quiet : (place : Place) (step : Step) (s : ContextState) → is_some place ≡ true →
    bared (with_progress place step s) ≡ bared s
progress-quiet None step s quiet = wrong_bool quiet
progress-quiet (Some place) step s quiet = refl

stopped-quiet : (script : ScriptModel) (a : ℕ) (stops : Bool) (s : ContextState) → not stops ≡ true →
    bared (cond stops (limited script a (parent_of script a) s) s) ≡ bared s
stopped-quiet script a true s quiet = wrong_bool quiet
stopped-quiet script a false s quiet = refl

begin-quiet : (inline : Bool) (lane : Lane) (s : ContextState) → AreFree s.allowances →
    bared (cond inline s (spend lane s)) ≡ bared s
begin-quiet true lane s free = refl
begin-quiet false lane s free =
    let f : Allowances → ContextState = λ al. record (bared s) { allowances = al } in
    ap f (spent_free lane s.allowances free)

context-quiet : (script : ScriptModel) (s : ContextState) (free : Bool) (event : Event) →
    (free ≡ true → AreFree s.allowances) → is_quiet script free event ≡ true →
    bared (context_after script s event) ≡ counted (bared s)
context-quiet script s free (event.Call a) lanes quiet =
    ap counted (progress-quiet (parent_of script a) step.Made s quiet)
context-quiet script s free (event.Back a) lanes quiet =
    let place = parent_of script a in
    let stops = is_act is_stop script a in
    let is = both_hold (is_some place) (not stops) quiet in
    let called : ContextState = with_call s a (returned s.events (call_at s a)) in
    ap counted
    (stopped-quiet script a stops (with_progress place step.Back called) is.1 ∙ progress-quiet place step.Back called is.0)
context-quiet script s free (event.Begin o code size) lanes quiet =
    ap counted (begin-quiet (is_inline script o) (lane_of script o) (begun s o code) (lanes quiet))
context-quiet script s free (event.End o mark) lanes quiet = refl
context-quiet script s free (event.Stop act) lanes quiet = wrong_bool quiet
context-quiet script s free (event.Take a) lanes quiet = wrong_bool quiet
context-quiet script s free (event.Done o code size) lanes quiet = wrong_bool quiet
context-quiet script s free (event.Tick now) lanes quiet = wrong_bool quiet
context-quiet script s free event.Last lanes quiet = wrong_bool quiet
context-quiet script s free event.Fault lanes quiet = wrong_bool quiet
context-quiet script s free event.Ended lanes quiet = wrong_bool quiet
context-quiet script s free event.Stopped lanes quiet = wrong_bool quiet
context-quiet script s free event.Polled lanes quiet = wrong_bool quiet
context-quiet script s free event.Restart lanes quiet = wrong_bool quiet
context-quiet script s free (event.Dropped o mark) lanes quiet = wrong_bool quiet

reactor-quiet : (script : ScriptModel) (told : Bool) (r : ReactorHalf) (free : Bool) (event : Event) → is_quiet script free event ≡ true →
    reactor_after script told r event ≡ r
reactor-quiet script told r free (event.Call a) quiet = refl
reactor-quiet script told r free (event.Back a) quiet = refl
reactor-quiet script told r free (event.Begin o code size) quiet = refl
reactor-quiet script told r free (event.End o mark) quiet = refl
reactor-quiet script told r free (event.Stop act) quiet = refl
reactor-quiet script told r free (event.Take a) quiet = wrong_bool quiet
reactor-quiet script told r free (event.Done o code size) quiet = wrong_bool quiet
reactor-quiet script told r free (event.Tick now) quiet = wrong_bool quiet
reactor-quiet script told r free event.Last quiet = wrong_bool quiet
reactor-quiet script told r free event.Fault quiet = wrong_bool quiet
reactor-quiet script told r free event.Ended quiet = refl
reactor-quiet script told r free event.Stopped quiet = refl
reactor-quiet script told r free event.Polled quiet = refl
reactor-quiet script told r free event.Restart quiet = refl
reactor-quiet script told r free (event.Dropped o mark) quiet = refl

-- the lanes that are known to be free are

progress-lanes : (place : Place) (step : Step) (s : ContextState) →
    (with_progress place step s).allowances ≡ s.allowances
progress-lanes None step s = refl
progress-lanes (Some place) step s = refl

stopped-lanes : (script : ScriptModel) (a : ℕ) (stops : Bool) (s : ContextState) → not stops ≡ true →
    (cond stops (limited script a (parent_of script a) s) s).allowances ≡ s.allowances
stopped-lanes script a true s quiet = wrong_bool quiet
stopped-lanes script a false s quiet = refl

begin-lanes : (inline : Bool) (lane : Lane) (s : ContextState) → AreFree s.allowances →
    AreFree (cond inline s (spend lane s)).allowances
begin-lanes true lane s free = free
begin-lanes false lane s free = subst AreFree (sym (spent_free lane s.allowances free)) free

context-free : (script : ScriptModel) (s : ContextState) (free : Bool) (event : Event) →
    (free ≡ true → AreFree s.allowances) → free_after script free event ≡ true →
    AreFree (context_after script s event).allowances
context-free script s free (event.Call a) lanes is =
    subst AreFree (sym (progress-lanes (parent_of script a) step.Made s)) (lanes is)
context-free script s free (event.Back a) lanes is =
    let place = parent_of script a in
    let stops = is_act is_stop script a in
    let both = both_hold free (not stops) is in
    let called : ContextState = with_call s a (returned s.events (call_at s a)) in
    subst AreFree
    (sym (stopped-lanes script a stops (with_progress place step.Back called) both.1
    ∙ progress-lanes place step.Back called))
    (lanes both.0)
context-free script s free (event.Begin o code size) lanes is =
    begin-lanes (is_inline script o) (lane_of script o) (begun s o code) (lanes is)
context-free script s free (event.End o mark) lanes is = lanes is
context-free script s free (event.Stop (Some a)) lanes is = lanes is
context-free script s free (event.Stop None) lanes is = lanes is
context-free script s free (event.Take a) lanes is =
    subst AreFree (sym (spent_free lane.Reactor s.allowances (lanes is))) (lanes is)
context-free script s free (event.Done o code size) lanes is = lanes is
context-free script s free (event.Tick now) lanes is =
    subst AreFree (sym (spent_free lane.Reactor s.allowances (lanes is))) (lanes is)
context-free script s free event.Last lanes is =
    subst AreFree (sym (spent_free lane.Reactor s.allowances (lanes is))) (lanes is)
context-free script s free event.Fault lanes is = lanes is
context-free script s free event.Ended lanes is = wrong_bool is
context-free script s free event.Stopped lanes is = wrong_bool is
context-free script s free event.Polled lanes is = lanes is
context-free script s free event.Restart lanes is =
    record {
      strands =
          All-map (λ allowed. allowed ≡ allowance.Free) (λ _. allowance.Free) s.allowances.strands (λ k d below. refl);
      own = refl;
      reactor = refl;
    }
context-free script s free (event.Dropped o mark) lanes is = lanes is

-- a quiet event leaves what is known of the lanes

quiet_was_free : (script : ScriptModel) (free : Bool) (event : Event) → is_quiet script free event ≡ true →
    free_after script free event ≡ true → free ≡ true
quiet_was_free script free (event.Call a) quiet is = is
quiet_was_free script free (event.Back a) quiet is = (both_hold free (not (is_act is_stop script a)) is).0
quiet_was_free script free (event.Begin o code size) quiet is = is
quiet_was_free script free (event.End o mark) quiet is = is
quiet_was_free script free (event.Stop act) quiet is = is
quiet_was_free script free (event.Take a) quiet is = is
quiet_was_free script free (event.Done o code size) quiet is = is
quiet_was_free script free (event.Tick now) quiet is = is
quiet_was_free script free event.Last quiet is = is
quiet_was_free script free event.Fault quiet is = is
quiet_was_free script free event.Ended quiet is = wrong_bool quiet
quiet_was_free script free event.Stopped quiet is = wrong_bool quiet
quiet_was_free script free event.Polled quiet is = is
quiet_was_free script free event.Restart quiet is = wrong_bool quiet
quiet_was_free script free (event.Dropped o mark) quiet is = is

quiet_is_free : (script : ScriptModel) (free : Bool) (event : Event) → is_quiet script free event ≡ true →
    free ≡ true → free_after script free event ≡ true
quiet_is_free script free (event.Call a) quiet is = is
quiet_is_free script free (event.Back a) quiet is =
    hold_both free (not (is_act is_stop script a)) is
    (both_hold (is_some (parent_of script a)) (not (is_act is_stop script a)) quiet).1
quiet_is_free script free (event.Begin o code size) quiet is = is
quiet_is_free script free (event.End o mark) quiet is = is
quiet_is_free script free (event.Stop act) quiet is = is
quiet_is_free script free (event.Take a) quiet is = is
quiet_is_free script free (event.Done o code size) quiet is = is
quiet_is_free script free (event.Tick now) quiet is = is
quiet_is_free script free event.Last quiet is = is
quiet_is_free script free event.Fault quiet is = is
quiet_is_free script free event.Ended quiet is = wrong_bool quiet
quiet_is_free script free event.Stopped quiet is = wrong_bool quiet
quiet_is_free script free event.Polled quiet is = is
quiet_is_free script free event.Restart quiet is = refl
quiet_is_free script free (event.Dropped o mark) quiet is = is

-- two states that are alike, as far as is known of the lanes
pub record AreAlike (free : Bool) (s t : State) : Type 0 where
  pub same : bare s ≡ bare t
  pub first_free : free ≡ true → AreFree s.context.allowances
  pub second_free : free ≡ true → AreFree t.context.allowances

both_halves : (s t : State) → bared s.context ≡ bared t.context → s.reactor ≡ t.reactor → bare s ≡ bare t
both_halves s t context reactor =
    let f : ContextState → State = λ c. record { context = c; reactor = s.reactor } in
    let g : ReactorHalf → State = λ r. record { context = bared t.context; reactor = r } in
    ap f context ∙ ap g reactor

-- the same operation completes in both

done_alike : (script : ScriptModel) (told free : Bool) (s t : State) (first second : Event) → AreAlike free s t →
    AreSameDone first second →
    AreAlike (free_after script free first) (after_event script told s first) (after_event script told t second)
done_alike script told free s t (event.Done o code size) (event.Done p given moved) alike same =
    let Q : ℕ → Type 0 =
    λ n. AreAlike free (after_event script told s (event.Done o code size))
    (after_event script told t (event.Done n given moved)) in
    let here : Q o =
    record {
      same =
          both_halves (after_event script told s (event.Done o code size))
          (after_event script told t (event.Done o given moved)) (ap (λ x. counted x.context) alike.same)
          (ap (λ x. reactor_after script told x.reactor (event.Done o code size)) alike.same);
      first_free = alike.first_free;
      second_free = alike.second_free;
    } in
    subst Q same here
done_alike script told free s t (event.Call a) second alike same = absurd same
done_alike script told free s t (event.Back a) second alike same = absurd same
done_alike script told free s t (event.Stop act) second alike same = absurd same
done_alike script told free s t (event.Begin o code size) second alike same = absurd same
done_alike script told free s t (event.End o mark) second alike same = absurd same
done_alike script told free s t (event.Take a) second alike same = absurd same
done_alike script told free s t (event.Tick now) second alike same = absurd same
done_alike script told free s t event.Last second alike same = absurd same
done_alike script told free s t event.Fault second alike same = absurd same
done_alike script told free s t event.Ended second alike same = absurd same
done_alike script told free s t event.Stopped second alike same = absurd same
done_alike script told free s t event.Polled second alike same = absurd same
done_alike script told free s t event.Restart second alike same = absurd same
done_alike script told free s t (event.Dropped o mark) second alike same = absurd same
done_alike script told free s t (event.Done o code size) (event.Call a) alike same = absurd same
done_alike script told free s t (event.Done o code size) (event.Back a) alike same = absurd same
done_alike script told free s t (event.Done o code size) (event.Stop act) alike same = absurd same
done_alike script told free s t (event.Done o code size) (event.Begin p given moved) alike same = absurd same
done_alike script told free s t (event.Done o code size) (event.End p mark) alike same = absurd same
done_alike script told free s t (event.Done o code size) (event.Take a) alike same = absurd same
done_alike script told free s t (event.Done o code size) (event.Tick now) alike same = absurd same
done_alike script told free s t (event.Done o code size) event.Last alike same = absurd same
done_alike script told free s t (event.Done o code size) event.Fault alike same = absurd same
done_alike script told free s t (event.Done o code size) event.Ended alike same = absurd same
done_alike script told free s t (event.Done o code size) event.Stopped alike same = absurd same
done_alike script told free s t (event.Done o code size) event.Polled alike same = absurd same
done_alike script told free s t (event.Done o code size) event.Restart alike same = absurd same
done_alike script told free s t (event.Done o code size) (event.Dropped p mark) alike same = absurd same

pub alike_after : (script : ScriptModel) (told free : Bool) (s t : State) (first second : Event) → AreAlike free s t →
    MayPair script free first second →
    AreAlike (free_after script free first) (after_event script told s first) (after_event script told t second)
alike_after script told free s t first second alike (inl one) =
    let Q : Event → Type 0 =
    λ e. AreAlike (free_after script free first) (after_event script told s first) (after_event script told t e) in
    subst Q one
    (record {
      same =
          both_halves (after_event script told s first) (after_event script told t first)
          (context-bared script s.context first
          ∙ ap (λ x. bared (context_after script x.context first)) alike.same
          ∙ sym (context-bared script t.context first))
          (ap (λ x. reactor_after script told x.reactor first) alike.same);
      first_free = context-free script s.context free first alike.first_free;
      second_free = context-free script t.context free first alike.second_free;
    })
alike_after script told free s t first second alike (inr (inl done)) =
    done_alike script told free s t first second alike done
alike_after script told free s t first second alike (inr (inr both)) =
    record {
      same =
          both_halves (after_event script told s first) (after_event script told t second)
          (context-quiet script s.context free first alike.first_free both.0
          ∙ ap (λ x. counted x.context) alike.same
          ∙ sym (context-quiet script t.context free second alike.second_free both.1))
          (reactor-quiet script told s.reactor free first both.0 ∙ ap (λ x. x.reactor) alike.same
          ∙ sym (reactor-quiet script told t.reactor free second both.1));
      first_free = context-free script s.context free first alike.first_free;
      second_free =
          λ is. context-free script t.context free second alike.second_free
          (quiet_is_free script free second both.1 (quiet_was_free script free first both.0 is));
    }

-- along two lists of events

pub alike_first : (script : ScriptModel) (told : Bool) → AreAlike true (first_state script told) (first_state script told)
alike_first script told =
    let free : AreFree (first_state script told).context.allowances = record {
      strands =
          λ k d below.
          let within : k < script.strands = omega (arith, below, length-replicate script.strands allowance.Free) in
          get_or-replicate script.strands k allowance.Free d within;
      own = refl;
      reactor = refl;
    } in record { same = refl; first_free = λ _. free; second_free = λ _. free }

pub alike_more : (script : ScriptModel) (told : Bool) (free : Bool) (first second : List Event) (i : ℕ) (d e : Event) →
    i < length first → i < length second →
    AreAlike free (state_of script told (take i first)) (state_of script told (take i second)) →
    MayPair script free (get_or first i d) (get_or second i e) →
    AreAlike (free_after script free (get_or first i d)) (state_of script told (take (i + 1) first))
    (state_of script told (take (i + 1) second))
alike_more script told free first second i d e within other_within alike pair =
    let more : suc i ≡ i + 1 = omega arith in
    let f = free_after script free (get_or first i d) in
    let next =
    alike_after script told free (state_of script told (take i first)) (state_of script told (take i second))
    (get_or first i d) (get_or second i e) alike pair in
    let one : state_of script told (take (i + 1) first) ≡ after_event script told
    (state_of script told (take i first)) (get_or first i d) =
    ap (λ n. state_of script told (take n first)) (sym more) ∙ state_suc script told (first_state script told) first i d within in
    let other : state_of script told (take (i + 1) second) ≡ after_event script told
    (state_of script told (take i second)) (get_or second i e) =
    ap (λ n. state_of script told (take n second)) (sym more)
    ∙ state_suc script told (first_state script told) second i e other_within in
    subst (λ s. AreAlike f s (state_of script told (take (i + 1) second))) (sym one)
    (subst (λ t. AreAlike f (after_event script told (state_of script told (take i first)) (get_or first i d))
    t) (sym other) next)

pub alike_whole : (script : ScriptModel) (told : Bool) (free : Bool) (first second : List Event) (i : ℕ) → length first ≤ i →
    length second ≡ length first →
    AreAlike free (state_of script told (take i first)) (state_of script told (take i second)) →
    bare (state_of script told first) ≡ bare (state_of script told second)
alike_whole script told free first second i past same alike =
    ap (λ es. bare (state_of script told es)) (sym (take_all i first past)) ∙ alike.same
    ∙ ap (λ es. bare (state_of script told es)) (take_all i second (omega (arith, past, same)))

-- states that are the same but for the acts, and have the same acts, are the same
pub same_state : (s t : State) (n : ℕ) → bare s ≡ bare t → length s.context.acts ≡ n → length t.context.acts ≡ n →
    ((k : ℕ) → k < n → act_at s.context k ≡ act_at t.context k) → s ≡ t
same_state s t n same long other_long acts =
    let lists : s.context.acts ≡ t.context.acts =
    same_lists s.context.acts t.context.acts (long ∙ sym other_long)
    (λ k d below.
    let under : k < n = omega (arith, below, long) in
    let under_other : k < length t.context.acts = omega (arith, below, long, other_long) in
    get_or_default s.context.acts k d fresh below ∙ acts k under
    ∙ get_or_default t.context.acts k fresh d under_other) in
    let f : State → State = λ x. record x { context = record x.context { acts = s.context.acts } } in
    let g : List ActState → State = λ xs. record t { context = record t.context { acts = xs } } in
    ap f same ∙ ap g lists

pub same_come : (script : ScriptModel) (kind : ReactorKind) (first second : Replayed) (path other : List Event) →
    HasCome script kind first path → HasCome script kind second other →
    bare (state_of script kind.told path) ≡ bare (state_of script kind.told other) →
    ((n : ℕ) → n < length first.script.acts → act_at first.state.context n ≡ act_at second.state.context n) →
    first.state ≡ second.state
same_come script kind first second path other come other_come same acts =
    let long : length first.state.context.acts ≡ length script.acts =
    ap (λ s. length s.context.acts) come.state ∙ size_of script kind.told path in
    let other_long : length second.state.context.acts ≡ length script.acts =
    ap (λ s. length s.context.acts) other_come.state ∙ size_of script kind.told other in
    let of_script : length first.script.acts ≡ length script.acts = ap (λ s. length s.acts) come.same_script in
    same_state first.state second.state (length script.acts)
    (ap bare come.state ∙ same ∙ sym (ap bare other_come.state)) long other_long
    (λ k below. acts k (omega (arith, below, of_script)))

pub same_parts : (a b : ActState) → a.call ≡ b.call → a.phase ≡ b.phase → a ≡ b
same_parts a b call phase =
    let f : CallPhase → ActState = λ c. record { call = c; phase = a.phase } in
    let g : ActPhase → ActState = λ p. record { call = b.call; phase = p } in
    ap f call ∙ ap g phase
