-- What events make of the rounds: those that neither restart nor close leave them, and a closing closes one.
use Rattle.std.proofs.Common.{◌≡◌, ℕ, Bool, true, false, List, None, Some, refl}
use Rattle.asio_types.specs.Faults.{one_more}
use Rattle.asio_types.specs.declared.event.Event.{Event}
use Rattle.asio_types.specs.declared.event.Event.TheVariants as event
use Rattle.session_script.specs.Script.{ScriptModel}
use Rattle.history_rules.specs.Legal.{context_after}
use Rattle.history_rules.specs.State.{ContextState}
use Rattle.lane_clock.specs.declared.step.ClockStep.{ClockStep}
use Rattle.lane_logs.specs.OpenerLog.{ClosedPart, Closes, OpenerPart}
use Rattle.history_merge.proofs.EachLabelLemmas.{is_of_execution}
use Rattle.history_merge.proofs.FrameLemmas.{IsWithinRound, RoundPart, round_after}
use Rattle.history_merge.proofs.StopLemmas.{Halts, halts_with}

-- an event that neither restarts nor closes a round, and destroys no handler
abbrev pub IsNoRound : Event → Type 0
IsNoRound event.Ended = ⊥
IsNoRound event.Stopped = ⊥
IsNoRound event.Polled = ⊥
IsNoRound event.Restart = ⊥
IsNoRound (event.Dropped o mark) = ⊥
IsNoRound _ = Unit {0}

pub within_no_round : (script : ScriptModel) (shown : Event) → IsWithinRound script shown → IsNoRound shown
within_no_round script event.Ended inside = inside
within_no_round script event.Stopped inside = inside
within_no_round script event.Polled inside = inside
within_no_round script event.Restart inside = inside
within_no_round script (event.Dropped o mark) inside = inside
within_no_round script other inside = tt

-- the rounds that are closed, whether this one was restarted, and whether handlers are being destroyed
pub record Rounds : Type 0 where
  pub closings : ℕ
  pub restarted : Bool
  pub dropping : Bool

abbrev pub rounds_in : RoundPart → Rounds
rounds_in part = record { closings = part.closings; restarted = part.restarted; dropping = part.dropping }

pub rounds_kept : (shown : Event) (part : RoundPart) → IsNoRound shown → rounds_in (round_after shown part) ≡ rounds_in part
rounds_kept event.Ended part none = absurd none
rounds_kept event.Stopped part none = absurd none
rounds_kept event.Polled part none = absurd none
rounds_kept event.Restart part none = absurd none
rounds_kept (event.Dropped o mark) part none = absurd none
rounds_kept (event.Stop (Some a)) part none = refl
rounds_kept (event.Stop None) part none = refl
rounds_kept other part none = refl

-- what `open` calls shows no such event
pub called_kept : (shown : Event) → is_of_execution shown ≡ true → IsNoRound shown
called_kept event.Ended is = absurd (cc)
called_kept event.Stopped is = absurd (cc)
called_kept event.Polled is = absurd (cc)
called_kept event.Restart is = absurd (cc)
called_kept (event.Dropped o mark) is = absurd (cc)
called_kept other is = tt

-- an event that doesn't restart leaves the stops of the last restart
abbrev pub IsNoRestart : Event → Type 0
IsNoRestart event.Restart = ⊥
IsNoRestart _ = Unit {0}

pub no_restart : (shown : Event) → IsNoRound shown → IsNoRestart shown
no_restart event.Restart none = none
no_restart other none = tt

pub base_kept : (shown : Event) (halts : Halts) → IsNoRestart shown → (halts_with shown halts).base ≡ halts.base
base_kept event.Restart halts none = absurd none
base_kept (event.Stop by) halts none = refl
base_kept event.Fault halts none = refl
base_kept event.Ended halts none = refl
base_kept other halts none = refl

pub closes_no_restart : (script : ScriptModel) (lists : ℕ → List ClockStep) (earlier : List OpenerPart) (part : ClosedPart)
    (shown : Event) → Closes script lists earlier part shown → IsNoRestart shown
closes_no_restart script lists earlier part event.Ended closes = tt
closes_no_restart script lists earlier part event.Stopped closes = tt
closes_no_restart script lists earlier part event.Polled closes = tt
closes_no_restart script lists earlier part other closes = absurd closes

-- what a closing makes of the rounds
pub record ClosesRound (s t : ContextState) : Type 0 where
  pub closings : t.closings ≡ one_more s.closings
  pub restarted : t.restarted ≡ false
  pub dropping : t.dropping ≡ s.dropping
  pub opening : t.opening ≡ s.opening

pub closes_round : (script : ScriptModel) (lists : ℕ → List ClockStep) (earlier : List OpenerPart) (part : ClosedPart)
    (shown : Event) → Closes script lists earlier part shown → (s : ContextState) →
    ClosesRound s (context_after script s shown)
closes_round script lists earlier part event.Ended closes s =
    record { closings = refl; restarted = refl; dropping = refl; opening = refl }
closes_round script lists earlier part event.Stopped closes s =
    record { closings = refl; restarted = refl; dropping = refl; opening = refl }
closes_round script lists earlier part event.Polled closes s =
    record { closings = refl; restarted = refl; dropping = refl; opening = refl }
closes_round script lists earlier part other closes s = absurd closes
