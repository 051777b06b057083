-- What one event makes of one act.
use Rattle.std.proofs.Common.{◌≡◌, ◌≢◌, ℕ, ◌≤◌, ◌==◌, Bool, true, false, Some, None, refl}
use Rattle.asio_types.specs.Code.{class_of_code}
use Rattle.asio_types.specs.declared.code.Class.{Class}
use Rattle.asio_types.specs.declared.code.Code.{Code}
use Rattle.asio_types.specs.declared.event.Event.{Event}
use Rattle.asio_types.specs.declared.event.Event.TheVariants as event
use Rattle.session_script.specs.Script.{ScriptModel}
use Rattle.history_rules.specs.Calls.{accepted, is_open, returned}
use Rattle.history_rules.specs.Rounds.{is_running, is_unspent}
use Rattle.history_rules.specs.State.{fresh, no_progress}
use Rattle.history_rules.specs.declared.phase.ActPhase.{ActPhase}
use Rattle.history_rules.specs.declared.phase.ActPhase.TheVariants as phase
use Rattle.history_rules.specs.declared.phase.ActState.{ActState}
use Rattle.history_rules.specs.declared.phase.CallPhase.{CallPhase}
use Rattle.history_rules.specs.declared.phase.CallPhase.TheVariants as call
use Rattle.history_rules.specs.declared.phase.Cause.{Cause}
use Rattle.history_rules.specs.declared.phase.Cause.TheVariants as cause
use Rattle.history_rules.specs.declared.phase.Progress.{Progress}
use Rattle.history_laws.specs.Events.{is_begin_of, is_call_of, is_completion_of, is_drop_of, is_end_of, is_return_of}

-- the event changes the context's half of this act
abbrev pub is_about : ℕ → Event → Bool
is_about n (event.Call act) = act == n
is_about n (event.Back act) = act == n
is_about n (event.Stop (Some act)) = act == n
is_about n (event.Stop None) = false
is_about n (event.Begin op code size) = op == n
is_about n (event.End op mark) = op == n
is_about n (event.Take act) = false
is_about n (event.Done op code size) = op == n
is_about n (event.Tick now) = false
is_about n event.Last = false
is_about n event.Fault = false
is_about n event.Ended = false
is_about n event.Stopped = false
is_about n event.Polled = false
is_about n event.Restart = false
is_about n (event.Dropped op mark) = op == n

-- a call is made or comes back
abbrev pub is_calling : Event → Bool
is_calling (event.Call act) = true
is_calling (event.Back act) = true
is_calling _ = false

pub data Moves (script : ScriptModel) (n : ℕ) : Event → ActState → ActState → Type 0 where
  -- nothing
  stays : {e : Event} {act : ActState} → is_about n e ≡ false → Moves script n e act act
  -- the call of another act is made by its handler, or comes back
  further : {e : Event} {made : CallPhase} {class : Class} {old new : Progress} → is_about n e ≡ false →
      is_calling e ≡ true → old.made ≤ new.made →
      Moves script n e (record { call = made; phase = phase.Running class old })
      (record { call = made; phase = phase.Running class new })
  -- it is called
  initiates : {at : ℕ} →
      Moves script n (event.Call n) fresh (record { call = call.Open at; phase = accepted script n })
  -- its call comes back
  comes_back : (at : ℕ) {made : CallPhase} {old : ActPhase} → is_open made ≡ true → old ≢ phase.Inside →
      Moves script n (event.Back n) (record { call = made; phase = old })
      (record { call = returned at made; phase = old })
  -- it stops the context
  halts : {at : ℕ} {old : ActPhase} →
      Moves script n (event.Stop (Some n)) (record { call = call.Open at; phase = old })
      (record { call = call.Stopping at; phase = old })
  -- its handler begins
  starts : {made : CallPhase} {code : Code} {size : ℕ} {why : Cause} →
      Moves script n (event.Begin n code size) (record { call = made; phase = phase.Ready code size why })
      (record { call = made; phase = phase.Running (class_of_code code) no_progress })
  -- its handler begins inside its call
  enters : {made : CallPhase} {code : Code} {size : ℕ} →
      Moves script n (event.Begin n code size) (record { call = made; phase = phase.Inside })
      (record { call = made; phase = phase.Running (class_of_code code) no_progress })
  -- its handler ends
  finishes : {made : CallPhase} {class : Class} {old : Progress} {mark : ℕ} → old.made ≡ old.back →
      Moves script n (event.End n mark) (record { call = made; phase = phase.Running class old })
      (record { call = made; phase = phase.Ended })
  -- it completes
  completes : {made : CallPhase} {code : Code} {size done turn : ℕ} →
      Moves script n (event.Done n code size) (record { call = made; phase = phase.Requested })
      (record { call = made; phase = phase.Ready code size (cause.Completed done turn) })
  -- its handler is destroyed
  destroys : {made : CallPhase} {old : ActPhase} {mark : ℕ} → is_unspent old ≡ true → is_running old ≡ false →
      old ≢ phase.Inside →
      Moves script n (event.Dropped n mark) (record { call = made; phase = old })
      (record { call = made; phase = phase.Dropped })

-- an event that isn't about an act shows nothing of it
pub no_call : (n : ℕ) (e : Event) → is_about n e ≡ false → is_call_of n e ≡ false
no_call n (event.Call act) isnt = isnt
no_call n _ isnt = refl

pub no_return : (n : ℕ) (e : Event) → is_about n e ≡ false → is_return_of n e ≡ false
no_return n (event.Back act) isnt = isnt
no_return n _ isnt = refl

pub no_begin : (n : ℕ) (e : Event) → is_about n e ≡ false → is_begin_of n e ≡ false
no_begin n (event.Begin op code size) isnt = isnt
no_begin n _ isnt = refl

pub no_end : (n : ℕ) (e : Event) → is_about n e ≡ false → is_end_of n e ≡ false
no_end n (event.End op mark) isnt = isnt
no_end n _ isnt = refl

pub no_drop : (n : ℕ) (e : Event) → is_about n e ≡ false → is_drop_of n e ≡ false
no_drop n (event.Dropped op mark) isnt = isnt
no_drop n _ isnt = refl

pub no_completion : (n : ℕ) (e : Event) → is_about n e ≡ false → is_completion_of n e ≡ false
no_completion n (event.Done op code size) isnt = isnt
no_completion n _ isnt = refl
