-- What the moves of an act keep.
use Rattle.std.proofs.Common.{◌≡◌, ℕ, ◌≤◌, Bool, true, false, List, refl, sym, ap, ◌∙◌, arith}
use Rattle.asio_types.specs.declared.code.Class.{Class}
use Rattle.asio_types.specs.declared.event.Event.{Event}
use Rattle.session_script.specs.Script.{ScriptModel}
use Rattle.history_rules.specs.Calls.{accepted, is_open, returned}
use Rattle.history_rules.specs.Rounds.{is_running, is_unspent}
use Rattle.history_rules.specs.declared.phase.ActPhase.{ActPhase}
use Rattle.history_rules.specs.declared.phase.ActPhase.TheVariants as phase
use Rattle.history_rules.specs.declared.phase.ActState.{ActState}
use Rattle.history_rules.specs.declared.phase.CallPhase.{CallPhase}
use Rattle.history_rules.specs.declared.phase.CallPhase.TheVariants as call
use Rattle.history_laws.specs.Events.{is_begin_of, is_call_of, is_completion_of, is_drop_of}
use Rattle.history_laws.proofs.CountLemmas.{one_if, same-is}
use Rattle.history_laws.proofs.Moves.{Moves, comes_back, completes, destroys, enters, finishes, further, halts, initiates, is_calling, starts, stays}
use Rattle.history_laws.proofs.ShownLemmas.{accepted-none, begins_shown, drops_shown}
use Rattle.history_laws.proofs.Sound.{AheadIn, CallsIn, may_pend}

ahead_waiting : (class : Class) (p : ActPhase) (k : ℕ) → is_unspent p ≡ true → is_running p ≡ false → AheadIn class p k
ahead_waiting class (phase.Running running progress) k is isnt = absurd (cc)
ahead_waiting class phase.Ended k is isnt = absurd (cc)
ahead_waiting class phase.Absent k is isnt = tt
ahead_waiting class phase.Inside k is isnt = tt
ahead_waiting class phase.Requested k is isnt = tt
ahead_waiting class (phase.Ready given size why) k is isnt = tt
ahead_waiting class phase.Dropped k is isnt = tt
ahead_waiting class phase.Asked k is isnt = tt

calls_waiting : (acts : List ℕ) (class : Class) (p : ActPhase) (n : ℕ) → is_running p ≡ false → CallsIn acts class p n → ⊥
calls_waiting acts class (phase.Running running progress) n isnt calls = absurd (cc)
calls_waiting acts class phase.Ended n isnt calls = calls
calls_waiting acts class phase.Absent n isnt calls = calls
calls_waiting acts class phase.Inside n isnt calls = calls
calls_waiting acts class phase.Requested n isnt calls = calls
calls_waiting acts class (phase.Ready given size why) n isnt calls = calls
calls_waiting acts class phase.Dropped n isnt calls = calls
calls_waiting acts class phase.Asked n isnt calls = calls

pub calls_running : (acts : List ℕ) (class : Class) (p : ActPhase) (n : ℕ) → CallsIn acts class p n →
    is_running p ≡ true
calls_running acts class (phase.Running running progress) n calls = refl
calls_running acts class phase.Ended n calls = absurd calls
calls_running acts class phase.Absent n calls = absurd calls
calls_running acts class phase.Inside n calls = absurd calls
calls_running acts class phase.Requested n calls = absurd calls
calls_running acts class (phase.Ready given size why) n calls = absurd calls
calls_running acts class phase.Dropped n calls = absurd calls
calls_running acts class phase.Asked n calls = absurd calls

open_uncalled : (made : CallPhase) → is_open made ≡ true → made ≡ call.Uncalled → ⊥
open_uncalled made is uncalled = absurd (let wrong : false ≡ true = sym (ap is_open uncalled) ∙ is in cc)

returned_shut : (at : ℕ) (made : CallPhase) → is_open (returned at made) ≡ false
returned_shut at call.Uncalled = refl
returned_shut at (call.Open called) = refl
returned_shut at (call.Stopping called) = refl
returned_shut at (call.Back called back) = refl

pend_waiting : (p : ActPhase) (taken : Bool) → one_if (may_pend p taken) ≤ one_if taken
pend_waiting phase.Requested taken = omega arith
pend_waiting phase.Dropped taken = omega arith
pend_waiting phase.Absent taken = omega arith
pend_waiting phase.Inside taken = omega arith
pend_waiting (phase.Ready given size why) taken = omega arith
pend_waiting (phase.Running class progress) taken = omega arith
pend_waiting phase.Ended taken = omega arith
pend_waiting phase.Asked taken = omega arith

-- an act that is accepted neither runs nor is destroyed
quiet_accepted : (script : ScriptModel) (n : ℕ) → is_running (accepted script n) ≡ false
quiet_accepted script n = runs_none (accepted script n) (accepted-none begins_shown refl refl refl refl refl script n)
  where
    runs_none : (p : ActPhase) → begins_shown p ≡ 0 → is_running p ≡ false
    runs_none (phase.Running class progress) none = absurd (omega (arith, none))
    runs_none phase.Absent none = refl
    runs_none phase.Inside none = refl
    runs_none phase.Requested none = refl
    runs_none (phase.Ready given size why) none = refl
    runs_none phase.Ended none = refl
    runs_none phase.Dropped none = refl
    runs_none phase.Asked none = refl

undropped_accepted : (script : ScriptModel) (n : ℕ) → accepted script n ≡ phase.Dropped → ⊥
undropped_accepted script n is =
    let none = accepted-none drops_shown refl refl refl refl refl script n in
    let one : drops_shown (accepted script n) ≡ 1 = ap drops_shown is in
    absurd (omega (arith, none, one))

module _ (script : ScriptModel) (n : ℕ) where
  -- a call that isn't made after an event wasn't made before
  pub ahead_moved : (class : Class) (k : ℕ) (e : Event) (old new : ActState) → Moves script n e old new →
      AheadIn class new.phase k → AheadIn class old.phase k
  ahead_moved class k e old new (stays isnt) ahead = ahead
  ahead_moved class k e old new (further isnt calling more) ahead = (ahead.0, omega (arith, more, ahead.1))
  ahead_moved class k e old new initiates ahead = tt
  ahead_moved class k e old new (comes_back at is never) ahead = ahead
  ahead_moved class k e old new halts ahead = ahead
  ahead_moved class k e old new starts ahead = tt
  ahead_moved class k e old new enters ahead = tt
  ahead_moved class k e old new (finishes all) ahead = absurd ahead
  ahead_moved class k e old new completes ahead = tt
  ahead_moved class k e old new (destroys {old = was} is isnt never) ahead = ahead_waiting class was k is isnt

  -- only a call makes a call
  pub uncalled_moved : (e : Event) (old new : ActState) → Moves script n e old new → is_call_of n e ≡ false →
      old.call ≡ call.Uncalled → new.call ≡ call.Uncalled
  uncalled_moved e old new (stays isnt) never uncalled = uncalled
  uncalled_moved e old new (further isnt calling more) never uncalled = uncalled
  uncalled_moved e old new initiates never uncalled =
      absurd (let here = same-is n in let wrong : true ≡ false = sym here ∙ never in cc)
  uncalled_moved e old new (comes_back at {made = made} is entered) never uncalled = absurd (open_uncalled made is uncalled)
  uncalled_moved e old new halts never uncalled = absurd (cc)
  uncalled_moved e old new starts never uncalled = uncalled
  uncalled_moved e old new enters never uncalled = uncalled
  uncalled_moved e old new (finishes all) never uncalled = uncalled
  uncalled_moved e old new completes never uncalled = uncalled
  uncalled_moved e old new (destroys is isnt entered) never uncalled = uncalled

  -- a call that is open was open, unless it was just made
  pub open_moved : (e : Event) (old new : ActState) → Moves script n e old new → is_call_of n e ≡ false →
      is_open new.call ≡ true → is_open old.call ≡ true
  open_moved e old new (stays isnt) never is = is
  open_moved e old new (further isnt calling more) never is = is
  open_moved e old new initiates never is =
      absurd (let here = same-is n in let wrong : true ≡ false = sym here ∙ never in cc)
  open_moved e old new (comes_back at opened entered) never is = opened
  open_moved e old new halts never is = refl
  open_moved e old new starts never is = is
  open_moved e old new enters never is = is
  open_moved e old new (finishes all) never is = is
  open_moved e old new completes never is = is
  open_moved e old new (destroys unspent isnt entered) never is = is

  -- a handler that makes a call goes on making it
  pub calls_moved : (acts : List ℕ) (class : Class) (m : ℕ) (e : Event) (old new : ActState) → Moves script n e old new →
      is_calling e ≡ false → CallsIn acts class old.phase m → CallsIn acts class new.phase m
  calls_moved acts class m e old new (stays isnt) never calls = calls
  calls_moved acts class m e old new (further isnt calling more) never calls = absurd (cc)
  calls_moved acts class m e old new initiates never calls = absurd (cc)
  calls_moved acts class m e old new (comes_back at is entered) never calls = calls
  calls_moved acts class m e old new halts never calls = calls
  calls_moved acts class m e old new starts never calls = absurd calls
  calls_moved acts class m e old new enters never calls = absurd calls
  calls_moved acts class m e old new (finishes all) never calls = absurd (omega (arith, all, calls.2))
  calls_moved acts class m e old new completes never calls = absurd calls
  calls_moved acts class m e old new (destroys {old = was} is isnt entered) never calls =
      absurd (calls_waiting acts class was m isnt calls)

  -- what doesn't run doesn't run behind anything but a begin
  pub quiet_moved : (e : Event) (old new : ActState) → Moves script n e old new → is_begin_of n e ≡ false →
      is_running old.phase ≡ false → is_running new.phase ≡ false
  quiet_moved e old new (stays isnt) never quiet = quiet
  quiet_moved e old new (further isnt calling more) never quiet = absurd (cc)
  quiet_moved e old new initiates never quiet =
      quiet_accepted script n
  quiet_moved e old new (comes_back at is entered) never quiet = quiet
  quiet_moved e old new halts never quiet = quiet
  quiet_moved e old new starts never quiet =
      absurd (let here = same-is n in let wrong : true ≡ false = sym here ∙ never in cc)
  quiet_moved e old new enters never quiet =
      absurd (let here = same-is n in let wrong : true ≡ false = sym here ∙ never in cc)
  quiet_moved e old new (finishes all) never quiet = refl
  quiet_moved e old new completes never quiet = refl
  quiet_moved e old new (destroys is isnt entered) never quiet = refl

  -- what the reactor may have it may have behind anything but a completion
  pub pend_moved : (taken : Bool) (e : Event) (old new : ActState) → Moves script n e old new →
      is_completion_of n e ≡ false → one_if (may_pend old.phase taken) ≤ one_if (may_pend new.phase taken)
  pend_moved taken e old new (stays isnt) never = omega arith
  pend_moved taken e old new (further isnt calling more) never = omega arith
  pend_moved taken e old new initiates never = omega arith
  pend_moved taken e old new (comes_back at is entered) never = omega arith
  pend_moved taken e old new halts never = omega arith
  pend_moved taken e old new starts never = omega arith
  pend_moved taken e old new enters never = omega arith
  pend_moved taken e old new (finishes all) never = omega arith
  pend_moved taken e old new completes never =
      absurd (let here = same-is n in let wrong : true ≡ false = sym here ∙ never in cc)
  pend_moved taken e old new (destroys {old = was} is isnt entered) never = pend_waiting was taken

  -- only a drop destroys
  pub dropped_moved : (e : Event) (old new : ActState) → Moves script n e old new → is_drop_of n e ≡ false →
      new.phase ≡ phase.Dropped → old.phase ≡ phase.Dropped
  dropped_moved e old new (stays isnt) never is = is
  dropped_moved e old new (further isnt calling more) never is = absurd (cc)
  dropped_moved e old new initiates never is = absurd (undropped_accepted script n is)
  dropped_moved e old new (comes_back at opened entered) never is = is
  dropped_moved e old new halts never is = is
  dropped_moved e old new starts never is = absurd (cc)
  dropped_moved e old new enters never is = absurd (cc)
  dropped_moved e old new (finishes all) never is = absurd (cc)
  dropped_moved e old new completes never is = absurd (cc)
  dropped_moved e old new (destroys unspent isnt entered) never is =
      absurd (let here = same-is n in let wrong : true ≡ false = sym here ∙ never in cc)
