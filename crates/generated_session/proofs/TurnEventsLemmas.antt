-- The events of the reactor in a session that a number makes: takes, completions, and moves of time.
use Rattle.std.proofs.Common.{◌≡◌, ◌⊎◌, ℕ, ◌+◌, ◌<◌, ◌≤◌, nat_lt, inl, inr, suc, Bool, true, false, not, ◌&&◌, cond, List, [], ◌∷◌, length, map, Option, Some, None, refl, ap, sym, ◌∙◌, subst, arith}
use Rattle.std.proofs.lemmas.Bool.{and_cases, and_from, and_parts, cases_order, ltb-false, not-true}
use Rattle.asio_types.specs.declared.code.Code.{Code}
use Rattle.asio_types.specs.declared.event.Event.{Event}
use Rattle.asio_types.specs.declared.event.Event.TheVariants as event
use Rattle.session_script.specs.declared.act.Act.{Act}
use Rattle.session_script.specs.declared.act.Act.TheVariants as act
use Rattle.session_script.specs.Script.{Entry, act_of}
use Rattle.stream_rules.specs.Stream.{Stream}
use Rattle.history_rules.specs.Order.{called_at, is_back_before, is_request, was_taken}
use Rattle.history_rules.specs.Performing.{performed_by, with_taken}
use Rattle.history_rules.specs.Requests.{MayTake, reactor_after_done, reactor_after_take}
use Rattle.history_rules.specs.Rounds.{AllQuiet, is_quiet}
use Rattle.history_rules.specs.Settling.{settled}
use Rattle.history_rules.specs.State.{ReactorHalf, State}
use Rattle.history_rules.specs.Time.{MayDrain, MayTick, at_last, at_time, reactor_after_last, reactor_after_tick}
use Rattle.history_rules.specs.declared.phase.ActPhase.{ActPhase}
use Rattle.history_rules.specs.declared.phase.ActPhase.TheVariants as phase
use Rattle.history_rules.specs.declared.phase.ActState.{ActState}
use Rattle.generated_session.specs.Generator.{session_of}
use Rattle.generated_session.specs.Summary.{is_abort, time_after}
use Rattle.generated_session.proofs.FitLemmas.{fits, is_called, control_not_requested, is_requested, request_asks, wait_requested}
use Rattle.generated_session.proofs.GatherLemmas.{none_more, one_if}
use Rattle.generated_session.proofs.GoingLemmas.{Going, TurnStep}
use Rattle.generated_session.proofs.ItemsLemmas.{absent, AreItems, asks_in, dispatches, expires, IsKnown, known, nth_act, posts, waits}
use Rattle.generated_session.proofs.StatesLemmas.{ActsFit, Changes, asks_opened, asks_within, at}
use Rattle.generated_session.proofs.TakesLemmas.{awaited, awaited_to_come, awaited_until, expired, expired_to_come, expired_until, taken_expires, taken_waits}
use Rattle.generated_session.proofs.TicksLemmas.{moved, moved_to_come, ticked_until, turns_moved}
use Rattle.generated_session.proofs.TurnsLemmas.{ahead_served, AreAhead, head_early, head_untaken, is_asking, served, served_to_come, served_until, settled_is, TakenTo, to_come, to_come_beside, Turns, turns_served, turns_taken, until}
use Rattle.generated_session.proofs.DoneLemmas.{IsDue, done_is, told_to_come, turns_done}

module _ (acts : List Entry) (items : AreItems 0 acts) (states : List ActState) (r : ReactorHalf) (from a : ℕ)
    (fit : ActsFit acts states) (asks : is_asking acts a ≡ true) (untaken : was_taken r a ≡ false)
    (first : (other : ℕ) → (is_request (at states other).phase && not (was_taken r other)) ≡ true →
    is_back_before (called_at (at states a).call) (at states other).call ≡ false) where
  later : (left : List ℕ) → Turns acts states r from left → from ≤ a
  later left turns = elim (and_cases (is_asking acts a) (nat_lt a from) (sym (turns.taken a) ∙ untaken)) [
    | inl never ↦ absurd (let wrong : false ≡ true = sym never ∙ asks in cc)
    | inr after ↦ ltb-false a from after
  ]

  by_order : (h : ℕ) (rest : List ℕ) → Turns acts states r from (h ∷ rest) → (a ≡ h) ⊎ ((a < h) ⊎ (h < a)) → a ≡ h
  by_order h rest turns (inl same) = same
  by_order h rest turns (inr (inl before)) =
      absurd (let wrong : false ≡ true = sym (turns.listed.1 a (later (h ∷ rest) turns) before) ∙ asks in cc)
  by_order h rest turns (inr (inr after)) =
      let least : from ≤ h = turns.listed.0 in
      let not_taken = head_untaken acts states r from h rest turns in
      let asked : (is_request (at states h).phase && not (was_taken r h)) ≡ true =
      and_from (is_request (at states h).phase) (not (was_taken r h)) (turns.waiting h turns.listed.2 least) (ap not not_taken) in
      let back = fit.order h a (asks_opened acts items h turns.listed.2) (asks_opened acts items a asks) after in
      absurd (let wrong : false ≡ true = sym (first h asked) ∙ back in cc)

  -- the request that is taken is the first one left
  pub head_is : (left : List ℕ) → Turns acts states r from left → (rest : List ℕ) × (left ≡ a ∷ rest)
  head_is [] turns = absurd (let wrong : false ≡ true = sym (turns.listed a (later [] turns)) ∙ asks in cc)
  head_is (h ∷ rest) turns = (rest, ap (λ n. n ∷ rest) (sym (by_order h rest turns (cases_order a h))))

module _ (acts : List Entry) (told : Bool) (states : List ActState) (r : ReactorHalf) (from a : ℕ) (rest : List ℕ)
    (turns : Turns acts states r from (a ∷ rest)) (ahead : AreAhead r) (below : a < length acts) where
  -- the request is performed, and what is due by it completes
  by_served : (o : Option Act) → nth_act acts a ≡ o → (next : ReactorHalf) →
      with_taken a (performed_by (session_of acts) a o r) ≡ next →
      TakenTo r next a (cond (is_requested (at states a).phase) 1 0) →
      to_come r (o ∷ map (nth_act acts) rest) ≡ to_come_beside next (map (nth_act acts) rest) →
      until r (o ∷ map (nth_act acts) rest) ≡ until next (map (nth_act acts) rest) →
      TurnStep acts states r (a ∷ rest) (event.Take a) (reactor_after_take (session_of acts) told r a)
  by_served o is next performs to aborts lasts =
      let script = session_of acts in
      let after : List (Option Act) = map (act_of script) rest in
      let next_turns : Turns acts states next (suc a) rest =
      turns_taken acts states r next from a rest turns to below in
      let same : reactor_after_take script told r a ≡ served next =
      ap (λ (x : Option Act). settled told (with_taken a (performed_by script a x r))) is ∙ ap (settled told) performs
      ∙ settled_is told next next_turns.queues in
      subst (λ (x : ReactorHalf). TurnStep acts states r (a ∷ rest) (event.Take a) x) (sym same) (record {
        from = suc a;
        rest = rest;
        turns = turns_served acts states next (suc a) rest next_turns;
        ahead = ahead_served next;
        aborts =
            ap (λ (x : Option Act). to_come r (x ∷ after)) is ∙ aborts ∙ sym (served_to_come next after)
            ∙ none_more (to_come (served next) after);
        lasts = ap (λ (x : Option Act). until r (x ∷ after)) is ∙ lasts ∙ sym (served_until next after);
        time = to.at;
      })

  early : r.now ≡ 0
  early = head_early acts states r from a rest turns

  pub takes : {o : Option Act} → IsKnown o → nth_act acts a ≡ o → (b : Bool) → fits o b (at states a).phase ≡ true →
      is_request (at states a).phase ≡ true → asks_in o ≡ true →
      TurnStep acts states r (a ∷ rest) (event.Take a) (reactor_after_take (session_of acts) told r a)
  takes absent is b fit asked asks = absurd (cc asks)
  takes (posts s) is b fit asked asks = absurd (cc asks)
  takes (dispatches s) is b fit asked asks = absurd (cc asks)
  takes (expires timer after small) is b fit asked asks =
      let zero_on : r.now + after ≡ after = let zero_still = early in omega (arith, zero_still) in
      let none : cond (is_requested (at states a).phase) 1 0 ≡ 0 =
      ap one_if (control_not_requested b (at states a).phase fit) in
      by_served (Some (act.Expires timer after)) is (expired a timer (r.now + after) r) refl
      (taken_expires r a timer (r.now + after) _ none)
      (expired_to_come r a timer after (r.now + after) (map (nth_act acts) rest) zero_on ahead)
      (expired_until r a timer after (r.now + after) (map (nth_act acts) rest) zero_on)
  takes (waits timer small) is b fit asked asks =
      let one : cond (is_requested (at states a).phase) 1 0 ≡ 1 =
      ap one_if (wait_requested b (at states a).phase fit asked) in
      by_served (Some (act.Wait timer (Some timer) None 7)) is (awaited a timer r) refl (taken_waits r a timer _ one)
      (awaited_to_come r a timer 7 (Some timer) None (map (nth_act acts) rest) early ahead)
      (awaited_until r a timer 7 (Some timer) None (map (nth_act acts) rest))

-- a request is taken
pub take_turns : (acts : List Entry) → AreItems 0 acts → (told : Bool) (s : State) (was : Going acts s) (a : ℕ) →
    MayTake (session_of acts) s a → TurnStep acts s.context.acts s.reactor was.left (event.Take a)
    (reactor_after_take (session_of acts) told s.reactor a)
take_turns acts items told s was a may =
    let states = s.context.acts in
    let parts = and_parts (is_request (at states a).phase) (not (was_taken s.reactor a)) may.untaken in
    let fit = was.fit.fit a in
    let asks = request_asks (known acts items a) (is_called (at states a).call) (at states a).phase fit parts.0 in
    let head =
    head_is acts items states s.reactor was.from a was.fit asks
    (not-true (was_taken s.reactor a) parts.1) may.first was.left was.turns in
    subst (λ (left : List ℕ).
    TurnStep acts states s.reactor left (event.Take a) (reactor_after_take (session_of acts) told s.reactor a))
    (sym head.1)
    (takes acts told states s.reactor was.from a head.0
    (subst (λ (left : List ℕ). Turns acts states s.reactor was.from left) head.1 was.turns) was.ahead (asks_within acts a asks)
    (known acts items a) refl (is_called (at states a).call) fit parts.0 asks)

-- a completion is told
pub done_turns : (acts : List Entry) (old new : List ActState) (r : ReactorHalf) (from o : ℕ) (left : List ℕ)
    (given : Code) (size : ℕ) (to : ActState) → IsKnown (nth_act acts o) → Turns acts old r from left → AreAhead r →
    IsDue r o given → Changes old new o to → is_requested to.phase ≡ false →
    TurnStep acts new r left (event.Done o given size) (reactor_after_done (session_of acts) r o)
done_turns acts old new r from o left given size to known turns ahead due changes is =
    subst (λ (x : ReactorHalf). TurnStep acts new r left (event.Done o given size) x)
    (sym (done_is (session_of acts) r o due.head due.rest known due.due)) (record {
      from = from;
      rest = left;
      turns = turns_done acts old r from o left given turns due new to changes is;
      ahead = ahead;
      aborts = told_to_come r o given size due (map (nth_act acts) left);
      lasts = refl;
      time = refl;
    })

quiet_request : (p : ActPhase) → is_request p ≡ true → is_quiet p false ≡ false
quiet_request phase.Requested asks = refl
quiet_request phase.Asked asks = refl
quiet_request p asks = absurd (cc)

-- no request is left where all is quiet
none_left : (acts : List Entry) (s : State) (from : ℕ) (left : List ℕ) → Turns acts s.context.acts s.reactor from left →
    AllQuiet s → left ≡ []
none_left acts s from [] turns quiet = refl
none_left acts s from (h ∷ rest) turns quiet =
    let not_taken = head_untaken acts s.context.acts s.reactor from h rest turns in
    let asks = turns.waiting h turns.listed.2 turns.listed.0 in
    let noisy = quiet_request (at s.context.acts h).phase asks in
    let still = quiet h in
    absurd (let wrong : false ≡ true = sym noisy ∙ (ap (is_quiet (at s.context.acts h).phase) (sym not_taken) ∙ still) in cc)

moves : (acts : List Entry) (told : Bool) (states : List ActState) (r : ReactorHalf) (from time : ℕ) (last : Bool)
    (streams : List Stream) (left : List ℕ) (e : Event) → Turns acts states r from left → left ≡ [] →
    until r [] ≡ until (moved time last streams r) [] → is_abort e ≡ false → time ≡ time_after r.now e →
    TurnStep acts states r left e (settled told (moved time last streams r))
moves acts told states r from time last streams left e turns none lasts aborts time_is =
    let next : ReactorHalf = moved time last streams r in
    let script = session_of acts in
    let next_turns = turns_moved acts states r from time last streams left turns none in
    subst (λ (x : ReactorHalf). TurnStep acts states r left e x) (sym (settled_is told next turns.queues)) (record {
      from = from;
      rest = [];
      turns =
          subst (λ (l : List ℕ). Turns acts states (served next) from l) none
          (turns_served acts states next from left next_turns);
      ahead = ahead_served next;
      aborts =
          ap (λ (l : List ℕ). to_come r (map (act_of script) l)) none ∙ moved_to_come r time last streams
          ∙ sym (served_to_come next [])
          ∙ none_more (to_come (served next) []) ∙ ap (λ b. cond b 1 0 + to_come (served next) []) (sym aborts);
      lasts = ap (λ (l : List ℕ). until r (map (act_of script) l)) none ∙ lasts ∙ sym (served_until next []);
      time = time_is;
    })

pub tick_turns : (acts : List Entry) (told : Bool) (s : State) (was : Going acts s) (time : ℕ) →
    MayTick (session_of acts) s time →
    TurnStep acts s.context.acts s.reactor was.left (event.Tick time)
    (reactor_after_tick (session_of acts) told s.reactor time)
tick_turns acts told s was time may =
    let streams = (at_time (session_of acts) told time s.reactor).streams in
    moves acts told s.context.acts s.reactor was.from time s.reactor.last streams was.left (event.Tick time) was.turns
    (none_left acts s was.from was.left was.turns may.idle.quiet) (ticked_until acts s.reactor time streams may.next) refl refl

pub last_turns : (acts : List Entry) (told : Bool) (s : State) (was : Going acts s) → MayDrain (session_of acts) s →
    TurnStep acts s.context.acts s.reactor was.left event.Last (reactor_after_last told s.reactor)
last_turns acts told s was may =
    moves acts told s.context.acts s.reactor was.from s.reactor.now true (at_last told s.reactor).streams was.left
    event.Last was.turns
    (none_left acts s was.from was.left was.turns may.idle.quiet) refl refl refl
