-- Each event of a session that a number makes, between the last call of `open` and the closing of its round.
use Rattle.std.proofs.Common.{◌≡◌, ℕ, ◌<◌, inl, inr, Bool, true, false, cond, List, length, Some, None, refl, ap, sym, ◌∙◌, arith}
use Rattle.std.specs.Option.{IsSomeAnd, unwrap_or}
use Rattle.std.specs.List.{slice_get, slice_set}
use Rattle.asio_types.specs.Code.{class_of_code}
use Rattle.asio_types.specs.declared.code.Class.{Class}
use Rattle.asio_types.specs.declared.code.Code.{Code}
use Rattle.asio_types.specs.declared.event.Event.{Event}
use Rattle.asio_types.specs.declared.event.Event.TheVariants as event
use Rattle.session_script.specs.Lanes.{is_inline, lane_of}
use Rattle.session_script.specs.Script.{Entry, Place, is_stop, parent_of}
use Rattle.history_rules.specs.FromOutside.{is_fault, is_outside_stop}
use Rattle.history_rules.specs.Calls.{IsNextOf, accepted, body_at, is_made, limited, progressed, returned, with_progress}
use Rattle.history_rules.specs.Executions.{MayBegin, MayEnd, begun}
use Rattle.history_rules.specs.Kinds.{is_act}
use Rattle.history_rules.specs.Legal.{MayHappen, after_event}
use Rattle.history_rules.specs.Order.{is_request}
use Rattle.history_rules.specs.Requests.{MayComplete}
use Rattle.history_rules.specs.Rounds.{restarts, runs}
use Rattle.history_rules.specs.State.{ContextState, State, no_progress, with_call}
use Rattle.history_rules.specs.Stopping.{spend}
use Rattle.history_rules.specs.declared.phase.ActPhase.{ActPhase}
use Rattle.history_rules.specs.declared.phase.ActPhase.TheVariants as phase
use Rattle.history_rules.specs.declared.phase.ActState.{ActState}
use Rattle.history_rules.specs.declared.phase.CallPhase.TheVariants as call
use Rattle.history_rules.specs.declared.phase.Cause.{Cause}
use Rattle.history_rules.specs.declared.phase.Cause.TheVariants as cause
use Rattle.history_rules.specs.declared.phase.Step.TheVariants as step
use Rattle.generated_session.specs.Generator.{one_run, session_of}
use Rattle.generated_session.proofs.ActEventsLemmas.{begin_inside_step, begin_step, changed_phase, done_step, end_step, finished, phased}
use Rattle.generated_session.proofs.CallEventsLemmas.{back_changes, back_size, back_states, back_step, call_step, call_turns, called_states, caller_of, made_by_test, made_not_back, opening_over, progress_ended, progress_fits, progress_made, progress_requests}
use Rattle.generated_session.proofs.DoneLemmas.{due_requested, what_is_due}
use Rattle.generated_session.proofs.FitLemmas.{fits, is_act-in, is_born, is_called, is_requested, never_stops, posting_never_requested}
use Rattle.generated_session.proofs.GoingLemmas.{ActStep, Going, Step, step_of, still_acts, still_turns}
use Rattle.generated_session.proofs.ItemsLemmas.{AreItems, known, nth_place, under}
use Rattle.generated_session.proofs.StatesLemmas.{acts_fit-changed, at, called-changed, changed, Changes, ended-changed, is_opened, outermost_opened}
use Rattle.generated_session.proofs.TurnEventsLemmas.{done_turns, last_turns, take_turns, tick_turns}
use Rattle.generated_session.proofs.TurnsLemmas.{Turns, turns_changed}

-- the event closes the round since no work is left
abbrev pub is_ended : Event → Bool
is_ended event.Ended = true
is_ended _ = false

module _ (acts : List Entry) (items : AreItems 0 acts) (told : Bool) (s : State) (was : Going acts s) where
  step_call : (a : ℕ) (place : Place) → nth_place acts a ≡ place →
      IsSomeAnd (body_at (session_of acts) s.reactor.failed s.context place) (IsNextOf a) →
      Step acts s was (event.Call a) (after_event (session_of acts) told s (event.Call a))
  step_call a None parent may = absurd (opening_over acts s.reactor.failed s.context a was.turns.working was.made may)
  step_call a (Some place) parent may =
      let script = session_of acts in
      let states = s.context.acts in
      let p : ℕ = place.0 in
      let c : Class = place.1 in
      let caller = caller_of acts p a c (at states p).phase may in
      let new : List ActState = called_states acts items states a p s.context.events c was.fit parent caller in
      step_of acts s was (event.Call a) (after_event script told s (event.Call a)) new
      (ap (λ (q : Place). slice_set (with_progress q step.Made s.context).acts a
      (record { call = call.Open s.context.events; phase = accepted script a })) parent)
      (ap (λ (q : Place). (with_progress q step.Made s.context).opening.made) parent)
      (ap (λ (q : Place). (with_progress q step.Made s.context).stopped) parent)
      (ap (λ (q : Place). (with_progress q step.Made s.context).closings) parent)
      refl (call_step acts items states a p s.context.events c was.fit parent caller)
      (still_turns acts new s.reactor was.from was.left (event.Call a) refl refl
      (call_turns acts items states a p s.context.events c was.fit parent caller s.reactor was.from was.left was.turns) was.ahead)

  step_back : (a : ℕ) (place : Place) → nth_place acts a ≡ place → is_made (at s.context.acts a).call ≡ true →
      is_act is_stop (session_of acts) a ≡ false →
      Step acts s was (event.Back a) (after_event (session_of acts) told s (event.Back a))
  step_back a None parent made never =
      let one : is_opened acts a ≡ true =
      outermost_opened acts a (back_size acts items s.context.acts a s.context.events was.fit made) parent in
      absurd (made_not_back (at s.context.acts a).call made (was.fit.opened a one))
  step_back a (Some place) parent made never =
      let script = session_of acts in
      let states = s.context.acts in
      let p : ℕ = place.0 in
      let c : Class = place.1 in
      let half : List ActState = back_states acts items states a s.context.events was.fit made in
      let to : ActState = record (at half p) { phase = progressed step.Back (at half p).phase } in
      let new : List ActState = slice_set half p to in
      let inside = under acts items a p c parent in
      let first_step = back_step acts items states a s.context.events was.fit made in
      let changes = back_changes acts items states a s.context.events was.fit made in
      let size : length half ≡ length acts = first_step.fit.size in
      let p_within : p < length acts =
      let next = inside.next in let less = inside.within in omega (arith, next, less) in
      let progress : Changes half new p to = changed half p to (omega (arith, size, p_within)) in
      let x : ContextState =
      with_progress (parent_of script a) step.Back (with_call s.context a (returned s.context.events (at states a).call)) in
      let y : ContextState =
      with_progress (Some place) step.Back (with_call s.context a (returned s.context.events (at states a).call)) in
      let limits : ContextState = limited script a (parent_of script a) x in
      let half_turns : Turns acts half s.reactor was.from was.left =
      turns_changed acts states half a (record
      (at states a) { call = returned s.context.events (at states a).call }) s.reactor was.from was.left was.turns changes
      (posting_never_requested inside.also (is_called (at states a).call) (at states a).phase
      (ap (λ o. fits o (is_called (at states a).call) (at states a).phase) (sym inside.made_is) ∙ was.fit.fit a))
      (posting_never_requested inside.also (is_called (at states a).call) (at states a).phase
      (ap (λ o. fits o (is_called (at states a).call) (at states a).phase) (sym inside.made_is) ∙ was.fit.fit a)) in
      let never_requests : is_request (at half p).phase ≡ false =
      posting_never_requested inside.posts (is_called (at half p).call) (at half p).phase
      (ap (λ o. fits o (is_called (at half p).call) (at half p).phase) (sym inside.maker_is) ∙ first_step.fit.fit p) in
      step_of acts s was (event.Back a) (after_event script told s (event.Back a)) new
      (ap (λ b. (cond b limits x).acts) never ∙ ap (λ (q : Place).
      (with_progress q step.Back (with_call s.context a (returned s.context.events (at states a).call))).acts) parent)
      (ap (λ b. (cond b limits x).opening.made) never
      ∙ ap (λ (q : Place). (with_progress q step.Back
      (with_call s.context a (returned s.context.events (at states a).call))).opening.made) parent)
      (ap (λ b. (cond b limits x).stopped) never ∙ ap (λ (q : Place).
      (with_progress q step.Back (with_call s.context a (returned s.context.events (at states a).call))).stopped) parent)
      (ap (λ b. (cond b limits x).closings) never
      ∙ ap (λ (q : Place). (with_progress q step.Back
      (with_call s.context a (returned s.context.events (at states a).call))).closings) parent)
      refl
      (record {
        fit = acts_fit-changed acts half new p to first_step.fit progress (record {
          fit =
              progress_fits (known acts items p) (is_called (at half p).call) (at half p).phase (first_step.fit.fit p);
          opened = λ is. refl;
          makes = λ n d place. progress_made (at half p).phase;
          called = λ q d place. refl;
        });
        calls =
            let one = first_step.calls in
            let two = called-changed half new p to (length acts) progress p_within in
            omega (arith, one, two);
        ends = λ weight.
            let one = first_step.ends weight in
            let two = ended-changed weight half new p to (length acts) progress p_within in
            let same = ap (λ b. cond b (weight p) 0) (progress_ended (at half p).phase) in
            omega (arith, one, two, same);
      })
      (still_turns acts new s.reactor was.from was.left (event.Back a) refl refl
      (turns_changed acts half new p to s.reactor was.from was.left half_turns progress never_requests
      (progress_requests (at half p).phase never_requests)) was.ahead)

  pick_same : {A : Type 0} (f : ContextState → A) (b : Bool) (x y : ContextState) → f y ≡ f x → f (cond b x y) ≡ f x
  pick_same f true x y same = refl
  pick_same f false x y same = same

  step_begun : (o : ℕ) (given : Code) (size : ℕ) → is_born (at s.context.acts o).phase ≡ true →
      is_request (at s.context.acts o).phase ≡ false →
      ActStep acts s.context.acts (phased s.context.acts o (phase.Running (class_of_code given) no_progress))
      (event.Begin o given size) →
      Step acts s was (event.Begin o given size) (after_event (session_of acts) told s (event.Begin o given size))
  step_begun o given size born never acts_step =
      let script = session_of acts in
      let states = s.context.acts in
      let to : ActState = record (at states o) { phase = phase.Running (class_of_code given) no_progress } in
      let new : List ActState = phased states o (phase.Running (class_of_code given) no_progress) in
      let x : ContextState = begun s.context o given in
      let y : ContextState = spend (lane_of script o) x in
      let b : Bool = is_inline script o in
      step_of acts s was (event.Begin o given size) (after_event script told s (event.Begin o given size)) new
      (pick_same (λ (c : ContextState). c.acts) b x y refl) (pick_same (λ (c : ContextState). c.opening.made) b x y refl)
      (pick_same (λ (c : ContextState). c.stopped) b x y refl) (pick_same (λ (c : ContextState). c.closings) b x y refl)
      refl acts_step
      (still_turns acts new s.reactor was.from was.left (event.Begin o given size) refl refl
      (turns_changed acts states new o to s.reactor was.from was.left was.turns
      (changed_phase states o (phase.Running (class_of_code given) no_progress) born) never refl) was.ahead)

  step_begin : (o : ℕ) (given : Code) (size : ℕ) → MayBegin (session_of acts) s.context o given size →
      Step acts s was (event.Begin o given size) (after_event (session_of acts) told s (event.Begin o given size))
  step_begin o given size (inl outside) =
      let why : Cause = outside.ready.0 in
      let is : (at s.context.acts o).phase ≡ phase.Ready given size why = outside.ready.1 in
      step_begun o given size (ap is_born is) (ap is_request is)
      (begin_step acts items s.context.acts o given size why is was.fit)
  step_begin o given size (inr inside) =
      step_begun o given size (ap is_born inside.inside) (ap is_request inside.inside)
      (begin_inside_step acts items s.context.acts o given size inside.inside inside.ok was.fit)

  step_end : (o mark : ℕ) → MayEnd (session_of acts) s.context o →
      Step acts s was (event.End o mark) (after_event (session_of acts) told s (event.End o mark))
  step_end o mark may =
      let states = s.context.acts in
      let done = finished acts o (at states o).phase may in
      let to : ActState = record (at states o) { phase = phase.Ended } in
      let new : List ActState = phased states o phase.Ended in
      step_of acts s was (event.End o mark) (after_event (session_of acts) told s (event.End o mark)) new refl refl refl refl refl
      (end_step acts items states o mark done was.fit)
      (still_turns acts new s.reactor was.from was.left (event.End o mark) refl refl
      (turns_changed acts states new o to s.reactor was.from was.left was.turns
      (changed_phase states o phase.Ended (ap is_born done.is)) (ap is_request done.is) refl) was.ahead)

  requested : (q : ActPhase) → is_requested q ≡ true → q ≡ phase.Requested
  requested phase.Requested is = refl
  requested q is = absurd (cc)

  step_done : (o : ℕ) (given : Code) (size : ℕ) → MayComplete (session_of acts) told s o given size →
      Step acts s was (event.Done o given size) (after_event (session_of acts) told s (event.Done o given size))
  step_done o given size may =
      let script = session_of acts in
      let states = s.context.acts in
      let due = what_is_due script told s.reactor o given size (known acts items o) may.next in
      let is : (at states o).phase ≡ phase.Requested =
      requested (at states o).phase (due_requested acts states s.reactor was.from o was.left given was.turns due) in
      let why : Cause = cause.Completed s.context.events (unwrap_or s.context.turn 0) in
      let to : ActState = record (at states o) { phase = phase.Ready given size why } in
      let new : List ActState = phased states o (phase.Ready given size why) in
      step_of acts s was (event.Done o given size) (after_event script told s (event.Done o given size)) new refl refl
      refl refl refl
      (done_step acts items states o given size why is was.fit)
      (done_turns acts states new s.reactor was.from o was.left given size to (known acts items o) was.turns was.ahead due
      (changed_phase states o (phase.Ready given size why) (ap is_born is)) refl)

  -- whatever comes next but the end of the round
  pub step_on : (e : Event) → MayHappen (session_of acts) told s e → is_fault e ≡ false → is_outside_stop e ≡ false →
      is_ended e ≡ false → Step acts s was e (after_event (session_of acts) told s e)
  step_on (event.Call a) may works runs_on going = step_call a (nth_place acts a) refl may
  step_on (event.Back a) may works runs_on going =
      let never = is_act-in is_stop acts a ∙ never_stops (known acts items a) in
      step_back a (nth_place acts a) refl (made_by_test (is_act is_stop (session_of acts) a) (is_inline (session_of acts) a)
      (at s.context.acts a) never may) never
  step_on (event.Stop (Some a)) may works runs_on going =
      absurd (let wrong : false ≡ true = sym (is_act-in is_stop acts a ∙ never_stops (known acts items a)) ∙ may.stops in cc)
  step_on (event.Stop None) may works runs_on going = absurd (cc)
  step_on (event.Begin o given size) may works runs_on going = step_begin o given size may
  step_on (event.End o mark) may works runs_on going = step_end o mark may
  step_on (event.Take a) may works runs_on going =
      step_of acts s was (event.Take a) (after_event (session_of acts) told s (event.Take a)) s.context.acts refl refl
      refl refl refl
      (still_acts acts s.context.acts (event.Take a) was.fit refl (λ weight. refl)) (take_turns acts items told s was a may)
  step_on (event.Done o given size) may works runs_on going = step_done o given size may
  step_on (event.Tick time) may works runs_on going =
      step_of acts s was (event.Tick time) (after_event (session_of acts) told s
      (event.Tick time)) s.context.acts refl refl refl refl refl
      (still_acts acts s.context.acts (event.Tick time) was.fit refl (λ weight. refl)) (tick_turns acts told s was time may)
  step_on event.Last may works runs_on going =
      step_of acts s was event.Last (after_event (session_of acts) told s event.Last) s.context.acts refl refl refl refl refl
      (still_acts acts s.context.acts event.Last was.fit refl (λ weight. refl)) (last_turns acts told s was may)
  step_on event.Fault may works runs_on going = absurd (cc)
  step_on event.Ended may works runs_on going = absurd (cc)
  step_on event.Stopped may works runs_on going =
      absurd (let wrong : false ≡ true = sym was.stopped ∙ may.stopped in cc)
  step_on event.Polled may works runs_on going =
      absurd (let wrong : true ≡ false = sym (ap (λ n. runs (slice_get one_run n)) was.closings) ∙ may.polls in cc)
  step_on event.Restart may works runs_on going =
      absurd (let wrong : false ≡ true = sym (ap (λ n. restarts (slice_get one_run n)) was.closings) ∙ may.wanted in cc)
  step_on (event.Dropped o mark) may works runs_on going = elim may.over [
    | inl closed ↦ absurd (let same = was.closings in omega (arith, closed, same))
    | inr failed ↦ absurd (let wrong : false ≡ true = sym was.turns.working ∙ failed.0 in cc)
  ]
