-- No rule of a history looks at the version of its script.
use Rattle.std.proofs.Common.{◌≡◌, ◌⊎◌, ℕ, Bool, List, [], ◌∷◌, Some, None, inl, inr}
use Rattle.asio_types.specs.declared.code.Code.{Code}
use Rattle.asio_types.specs.declared.event.Event.{Event}
use Rattle.asio_types.specs.declared.event.Event.TheVariants as event
use Rattle.session_script.specs.Script.{ScriptModel}
use Rattle.history_rules.specs.Calls.{MayStop}
use Rattle.history_rules.specs.Executions.{MayBegin, MayBeginOutside}
use Rattle.history_rules.specs.Legal.{IsLegal, IsLegalFrom, MayHappen, after_event}
use Rattle.history_rules.specs.Requests.{MayComplete, MayTake, MayTell, MayTurn}
use Rattle.history_rules.specs.Rounds.{HasRoundLeft, MayDrop, MayEndPoll, MayEndRound, MayRestart, MayStopRound, RoundIsOpen}
use Rattle.history_rules.specs.State.{State, ContextState, ReactorHalf, first_state}
use Rattle.history_rules.specs.Time.{IsIdle, MayBreakOff, MayDrain, MayFault, MayTick}

-- the same script with another version
abbrev with_version : ℕ → ScriptModel → ScriptModel
with_version version script = record script { version = version }

has_round_left : (v : ℕ) (script : ScriptModel) (s : ContextState) → HasRoundLeft script s →
    HasRoundLeft (with_version v script) s
has_round_left v script s h = record { opened = h.opened; left = h.left }

round_is_open : (v : ℕ) (script : ScriptModel) (s : ContextState) → RoundIsOpen script s →
    RoundIsOpen (with_version v script) s
round_is_open v script s h =
    record { begun = has_round_left v script s h.begun; restarted = h.restarted; alive = h.alive }

may_stop : (v : ℕ) (script : ScriptModel) (s : ContextState) (a : ℕ) → MayStop script s a →
    MayStop (with_version v script) s a
may_stop v script s a h = record { stops = h.stops; made = h.made }

may_begin_outside : (v : ℕ) (script : ScriptModel) (s : ContextState) (o : ℕ) (code : Code) (size : ℕ) →
    MayBeginOutside script s o code size → MayBeginOutside (with_version v script) s o code size
may_begin_outside v script s o code size h = record {
  round = round_is_open v script s h.round;
  ready = h.ready;
  alone = h.alone;
  first = h.first;
  allowed = h.allowed;
}

may_begin : (v : ℕ) (script : ScriptModel) (s : ContextState) (o : ℕ) (code : Code) (size : ℕ) →
    MayBegin script s o code size → MayBegin (with_version v script) s o code size
may_begin v script s o code size (inl h) = inl (may_begin_outside v script s o code size h)
may_begin v script s o code size (inr h) = inr h

may_end_round : (v : ℕ) (script : ScriptModel) (s : State) → MayEndRound script s →
    MayEndRound (with_version v script) s
may_end_round v script s h =
    record { round = round_is_open v script s.context h.round; going = h.going; idle = h.idle }

may_stop_round : (v : ℕ) (script : ScriptModel) (s : State) → MayStopRound script s →
    MayStopRound (with_version v script) s
may_stop_round v script s h = record {
  round = round_is_open v script s.context h.round;
  stopped = h.stopped;
  quiet = h.quiet;
  back = h.back;
  told = h.told;
  drained = h.drained;
  working = h.working;
}

may_end_poll : (v : ℕ) (script : ScriptModel) (s : State) → MayEndPoll script s → MayEndPoll (with_version v script) s
may_end_poll v script s h = record {
  round = round_is_open v script s.context h.round;
  polls = h.polls;
  going = h.going;
  outstanding = h.outstanding;
  idle = h.idle;
  told = h.told;
  drained = h.drained;
}

may_restart : (v : ℕ) (script : ScriptModel) (s : State) → MayRestart script s → MayRestart (with_version v script) s
may_restart v script s h = record {
  begun = has_round_left v script s.context h.begun;
  wanted = h.wanted;
  once = h.once;
  quiet = h.quiet;
  working = h.working;
}

may_drop : (v : ℕ) (script : ScriptModel) (s : State) (o : ℕ) → MayDrop script s o → MayDrop (with_version v script) s o
may_drop v script s o h = record { over = h.over; next = h.next }

may_turn : (v : ℕ) (script : ScriptModel) (s : State) → MayTurn script s → MayTurn (with_version v script) s
may_turn v script s h = record {
  round = round_is_open v script s.context h.round;
  working = h.working;
  told = h.told;
  drained = h.drained;
  allowed = h.allowed;
}

may_take : (v : ℕ) (script : ScriptModel) (s : State) (a : ℕ) → MayTake script s a → MayTake (with_version v script) s a
may_take v script s a h = record { turn = may_turn v script s h.turn; untaken = h.untaken; first = h.first }

may_tell : (v : ℕ) (script : ScriptModel) (told : Bool) (r : ReactorHalf) (o : ℕ) (code : Code) (size : ℕ) →
    MayTell script told r o code size → MayTell (with_version v script) told r o code size
may_tell v script told r o code size (inl h) =
    inl (record { head = h.head; due = h.due; is_op = h.is_op; outcome = h.outcome })
may_tell v script told r o code size (inr h) = inr (record { untold = h.untold; fixed = h.fixed; given = h.given })

may_complete : (v : ℕ) (script : ScriptModel) (told : Bool) (s : State) (o : ℕ) (code : Code) (size : ℕ) →
    MayComplete script told s o code size → MayComplete (with_version v script) told s o code size
may_complete v script told s o code size h =
    record { working = h.working; next = may_tell v script told s.reactor o code size h.next; turn = h.turn }

is_idle : (v : ℕ) (script : ScriptModel) (s : State) → IsIdle script s → IsIdle (with_version v script) s
is_idle v script s h = record {
  turn = may_turn v script s h.turn;
  runs = h.runs;
  quiet = h.quiet;
  back = h.back;
  pending = h.pending;
}

may_tick : (v : ℕ) (script : ScriptModel) (s : State) (now : ℕ) → MayTick script s now →
    MayTick (with_version v script) s now
may_tick v script s now h = record { idle = is_idle v script s h.idle; next = h.next }

may_drain : (v : ℕ) (script : ScriptModel) (s : State) → MayDrain script s → MayDrain (with_version v script) s
may_drain v script s h = record { idle = is_idle v script s h.idle; next = h.next }

may_break_off : (v : ℕ) (script : ScriptModel) (s : State) → MayBreakOff script s →
    MayBreakOff (with_version v script) s
may_break_off v script s h =
    record { round = round_is_open v script s.context h.round; untouched = h.untouched }

fails_when : (v : ℕ) (script : ScriptModel) (s : State) → (s.context.events ≡ 0) ⊎ MayBreakOff script s →
    (s.context.events ≡ 0) ⊎ MayBreakOff (with_version v script) s
fails_when v script s (inl h) = inl h
fails_when v script s (inr h) = inr (may_break_off v script s h)

may_fault : (v : ℕ) (script : ScriptModel) (s : State) → MayFault script s → MayFault (with_version v script) s
may_fault v script s h = record { once = h.once; when = fails_when v script s h.when }

may_happen : (v : ℕ) (script : ScriptModel) (told : Bool) (s : State) (event : Event) → MayHappen script told s event →
    MayHappen (with_version v script) told s event
may_happen v script told s (event.Call a) h = h
may_happen v script told s (event.Back a) h = h
may_happen v script told s (event.Stop (Some a)) h = may_stop v script s.context a h
may_happen v script told s (event.Stop None) h = round_is_open v script s.context h
may_happen v script told s (event.Begin o code size) h = may_begin v script s.context o code size h
may_happen v script told s (event.End o mark) h = h
may_happen v script told s (event.Take a) h = may_take v script s a h
may_happen v script told s (event.Done o code size) h = may_complete v script told s o code size h
may_happen v script told s (event.Tick now) h = may_tick v script s now h
may_happen v script told s event.Last h = may_drain v script s h
may_happen v script told s event.Fault h = may_fault v script s h
may_happen v script told s event.Ended h = may_end_round v script s h
may_happen v script told s event.Stopped h = may_stop_round v script s h
may_happen v script told s event.Polled h = may_end_poll v script s h
may_happen v script told s event.Restart h = may_restart v script s h
may_happen v script told s (event.Dropped o mark) h = may_drop v script s o h

-- each event leads to the same state, so all the events stay legal
is_legal_from : (v : ℕ) (script : ScriptModel) (told : Bool) (s : State) (events : List Event) →
    IsLegalFrom script told s events → IsLegalFrom (with_version v script) told s events
is_legal_from v script told s [] h = h
is_legal_from v script told s (event ∷ events) h =
    (may_happen v script told s event h.0, is_legal_from v script told (after_event script told s event) events h.1)

-- a legal history of a script is one of the same script with another version
pub is_legal : (v : ℕ) (script : ScriptModel) (told : Bool) (events : List Event) → IsLegal script told events →
    IsLegal (record script { version = v }) told events
is_legal v script told events h = record {
  legal = is_legal_from v script told (first_state script told) events h.legal;
  whole = record { over = h.whole.over; spent = h.whole.spent };
}
