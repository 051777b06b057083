-- The calls of `open` in a session that a number makes: they come one after the other, and nothing else before the last
-- is back.
use Rattle.std.proofs.Common.{◌≡◌, ◌≢◌, ◌⊎◌, ℕ, ◌+◌, ◌<◌, ◌≤◌, inl, inr, Bool, true, false, List, [], ◌∷◌, length, Some, None, refl, ap, sym, ◌∙◌, arith}
use Rattle.std.specs.Option.{IsSomeAnd}
use Rattle.std.specs.List.{slice_get}
use Rattle.asio_types.specs.declared.code.Class.{Class}
use Rattle.asio_types.specs.declared.event.Event.{Event}
use Rattle.asio_types.specs.declared.event.Event.TheVariants as event
use Rattle.session_script.specs.Lanes.{is_inline}
use Rattle.session_script.specs.Script.{Entry, Place, is_operation, is_stop, opening_of}
use Rattle.history_rules.specs.FromOutside.{is_fault, is_outside_stop}
use Rattle.history_rules.specs.Calls.{IsNextOf, accepted, body_at, is_made}
use Rattle.history_rules.specs.Kinds.{is_act, is_control, is_posting}
use Rattle.history_rules.specs.Legal.{MayHappen}
use Rattle.history_rules.specs.Order.{called_at, is_back_before}
use Rattle.history_rules.specs.Rounds.{HasRoundLeft}
use Rattle.history_rules.specs.State.{ReactorHalf, State, first_reactor, fresh}
use Rattle.history_rules.specs.declared.phase.ActPhase.{ActPhase}
use Rattle.history_rules.specs.declared.phase.ActPhase.TheVariants as phase
use Rattle.history_rules.specs.declared.phase.ActState.{ActState}
use Rattle.generated_session.specs.Generator.{session_of}
use Rattle.generated_session.proofs.ActEventsLemmas.{finished}
use Rattle.generated_session.proofs.CallEventsLemmas.{caller_of, made_by_test, opening_next}
use Rattle.generated_session.proofs.DoneLemmas.{what_is_due}
use Rattle.generated_session.proofs.FitLemmas.{accepted_by, is_act-in, is_back, never_stops, opened_is, test_in}
use Rattle.generated_session.proofs.ItemsLemmas.{AreItems, known, nth_act, nth_place}
use Rattle.generated_session.proofs.ListedLemmas.{IsListed}
use Rattle.generated_session.proofs.StatesLemmas.{at, is_opened}

-- neither running nor about to run inside a call
abbrev pub is_still : ActPhase → Bool
is_still phase.Inside = false
is_still (phase.Running class progress) = false
is_still _ = true

-- a call of `open` that is back before a place
pub record IsBackAt (acts : List Entry) (states : List ActState) (place n : ℕ) : Type 0 where
  pub back : is_back (at states n).call ≡ true
  pub before : is_back_before place (at states n).call ≡ true
  pub phase : (at states n).phase ≡ accepted (session_of acts) n

-- all calls of `open` below a number are back, and these are left
pub record Opening (acts : List Entry) (told : Bool) (s : State) (from : ℕ) (left : List ℕ) : Type 0 where
  pub size : length s.context.acts ≡ length acts
  pub listed : IsListed (is_opened acts) from left
  pub made : s.context.opening.made + length left ≡ length (opening_of (session_of acts))
  pub back : s.context.opening.back ≡ s.context.opening.made
  pub next : (k : ℕ) → slice_get (opening_of (session_of acts)) (s.context.opening.made + k) ≡ slice_get left k
  pub stopped : s.context.stopped ≡ false
  pub closings : s.context.closings ≡ 0
  pub events : s.context.events ≡ s.context.opening.made + s.context.opening.made
  pub called : (n : ℕ) → is_opened acts n ≡ true → n < from → IsBackAt acts s.context.acts s.context.events n
  pub rest : (n : ℕ) → (is_opened acts n ≡ false) ⊎ (from ≤ n) → at s.context.acts n ≡ fresh
  pub order : (i j : ℕ) → is_opened acts i ≡ true → is_opened acts j ≡ true → i < j → j < from →
      is_back_before (called_at (at s.context.acts j).call) (at s.context.acts i).call ≡ true
  pub reactor : s.reactor ≡ first_reactor (session_of acts) told

still_by : (posting operation control : Bool) → is_still (accepted_by false posting operation control) ≡ true
still_by true operation control = refl
still_by false true control = refl
still_by false false true = refl
still_by false false false = refl

-- what `open` called doesn't run
pub accepted_still : (acts : List Entry) (n : ℕ) → nth_place acts n ≡ None →
    is_still (accepted (session_of acts) n) ≡ true
accepted_still acts n place =
    let act = nth_act acts n in
    ap is_still (opened_is acts n place)
    ∙ still_by (test_in is_posting act) (test_in is_operation act) (test_in is_control act)

abbrev pub is_turn : Event → Bool
is_turn (event.Call a) = false
is_turn (event.Back a) = false
is_turn _ = true

module _ (acts : List Entry) (items : AreItems 0 acts) (told : Bool) (s : State)
    (unopened : s.context.opening.back ≢ length (opening_of (session_of acts)))
    (still : (n : ℕ) → is_still (at s.context.acts n).phase ≡ true) (reactor : s.reactor ≡ first_reactor (session_of acts) told)
    (closings : s.context.closings ≡ 0) where
  no_round : HasRoundLeft (session_of acts) s.context → ⊥
  no_round round = unopened round.opened

  moving : (n : ℕ) (q : ActPhase) → (at s.context.acts n).phase ≡ q → is_still q ≡ false → ⊥
  moving n q is live = let wrong : true ≡ false = sym (still n) ∙ (ap is_still is ∙ live) in cc

  works : s.reactor.failed ≡ false
  works = ap (λ (r : ReactorHalf). r.failed) reactor

  -- before the last call of `open` is back nothing comes but calls and returns
  pub calls_only : (e : Event) → MayHappen (session_of acts) told s e → is_fault e ≡ false → is_outside_stop e ≡ false →
      is_turn e ≡ true → ⊥
  calls_only (event.Call a) may fine goes turn = cc turn
  calls_only (event.Back a) may fine goes turn = cc turn
  calls_only (event.Stop (Some a)) may fine goes turn =
      let wrong : false ≡ true = sym (is_act-in is_stop acts a ∙ never_stops (known acts items a)) ∙ may.stops in cc
  calls_only (event.Stop None) may fine goes turn = cc goes
  calls_only (event.Begin o given size) may fine goes turn = elim may [
    | inl outside ↦ no_round outside.round.begun
    | inr inside ↦ moving o phase.Inside inside.inside refl
  ]
  calls_only (event.End o mark) may fine goes turn =
      let done = finished acts o (at s.context.acts o).phase may in
      moving o (phase.Running done.class done.progress) done.is refl
  calls_only (event.Take a) may fine goes turn = no_round may.turn.round.begun
  calls_only (event.Done o given size) may fine goes turn =
      let due = what_is_due (session_of acts) told s.reactor o given size (known acts items o) may.next in
      let wrong : [] ≡ due.head ∷ due.rest = sym (ap (λ (r : ReactorHalf). r.due) reactor) ∙ due.due in cc
  calls_only (event.Tick time) may fine goes turn = no_round may.idle.turn.round.begun
  calls_only event.Last may fine goes turn = no_round may.idle.turn.round.begun
  calls_only event.Fault may fine goes turn = cc fine
  calls_only event.Ended may fine goes turn = no_round may.round.begun
  calls_only event.Stopped may fine goes turn = no_round may.round.begun
  calls_only event.Polled may fine goes turn = no_round may.round.begun
  calls_only event.Restart may fine goes turn = no_round may.begun
  calls_only (event.Dropped o mark) may fine goes turn = elim may.over [
    | inl closed ↦ absurd (omega (arith, closed, closings))
    | inr failed ↦ (let wrong : false ≡ true = sym works ∙ failed.0 in cc)
  ]

  -- a call by a handler
  no_handler : (a : ℕ) (place : ℕ × Class) →
      IsSomeAnd (body_at (session_of acts) s.reactor.failed s.context (Some place)) (IsNextOf a) → ⊥
  no_handler a place may =
      let caller = caller_of acts place.0 a place.1 (at s.context.acts place.0).phase may in
      moving place.0 (phase.Running caller.running caller.progress) caller.is refl

  next_by : (a : ℕ) (place : Place) →
      IsSomeAnd (body_at (session_of acts) s.reactor.failed s.context place) (IsNextOf a) →
      IsNextOf a (record { acts = opening_of (session_of acts); progress = s.context.opening })
  next_by a None may = opening_next acts s.reactor.failed s.context a works may
  next_by a (Some place) may = absurd (no_handler a place may)

  pub next_call : (a : ℕ) → MayHappen (session_of acts) told s (event.Call a) →
      IsNextOf a (record { acts = opening_of (session_of acts); progress = s.context.opening })
  next_call a may = next_by a (nth_place acts a) may

  pub back_made : (a : ℕ) → MayHappen (session_of acts) told s (event.Back a) →
      is_made (at s.context.acts a).call ≡ true
  back_made a may =
      made_by_test (is_act is_stop (session_of acts) a) (is_inline (session_of acts) a) (at s.context.acts a)
      (is_act-in is_stop acts a ∙ never_stops (known acts items a)) may

-- what the next event is
pub is_the_call : (e : Event) (h : ℕ) → is_turn e ≡ false → ((a : ℕ) → e ≡ event.Call a → a ≡ h) →
    ((a : ℕ) → e ≡ event.Back a → ⊥) → e ≡ event.Call h
is_the_call (event.Call a) h turn calls backs = ap event.Call (calls a refl)
is_the_call (event.Back a) h turn calls backs = absurd (backs a refl)
is_the_call e h turn calls backs = absurd (cc turn)

pub is_the_return : (e : Event) (h : ℕ) → is_turn e ≡ false → ((a : ℕ) → e ≡ event.Call a → ⊥) →
    ((a : ℕ) → e ≡ event.Back a → a ≡ h) → e ≡ event.Back h
is_the_return (event.Call a) h turn calls backs = absurd (calls a refl)
is_the_return (event.Back a) h turn calls backs = ap event.Back (backs a refl)
is_the_return e h turn calls backs = absurd (cc turn)
