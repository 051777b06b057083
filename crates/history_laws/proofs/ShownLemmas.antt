-- What a history has shown of an act is read from what has become of it.
use Rattle.std.proofs.Common.{◌≡◌, ℕ, ◌+◌, ◌≤◌, ◌==◌, Bool, true, false, cond, refl, sym, arith}
use Rattle.asio_types.specs.declared.code.Code.TheVariants as code
use Rattle.asio_types.specs.declared.event.Event.{Event}
use Rattle.session_script.specs.Lanes.{is_inline}
use Rattle.session_script.specs.Script.{ScriptModel}
use Rattle.history_rules.specs.Calls.{accepted, is_open, returned}
use Rattle.history_rules.specs.Kinds.{is_act, is_control, is_posting}
use Rattle.session_script.specs.Script.{is_operation}
use Rattle.history_rules.specs.Rounds.{is_running, is_unspent}
use Rattle.history_rules.specs.declared.phase.ActPhase.{ActPhase}
use Rattle.history_rules.specs.declared.phase.ActPhase.TheVariants as phase
use Rattle.history_rules.specs.declared.phase.ActState.{ActState}
use Rattle.history_rules.specs.declared.phase.CallPhase.{CallPhase}
use Rattle.history_rules.specs.declared.phase.CallPhase.TheVariants as call
use Rattle.history_rules.specs.declared.phase.Cause.TheVariants as cause
use Rattle.history_laws.specs.Events.{is_begin_of, is_call_of, is_completion_of, is_drop_of, is_end_of, is_return_of}
use Rattle.history_laws.proofs.CountLemmas.{one_if, same-is}
use Rattle.history_laws.proofs.Moves.{Moves, comes_back, completes, destroys, enters, finishes, further, halts, initiates, no_begin, no_call, no_completion, no_drop, no_end, no_return, starts, stays}

abbrev pub calls_shown : CallPhase → ℕ
calls_shown call.Uncalled = 0
calls_shown (call.Open called) = 1
calls_shown (call.Stopping called) = 1
calls_shown (call.Back called back) = 1

abbrev pub returns_shown : CallPhase → ℕ
returns_shown call.Uncalled = 0
returns_shown (call.Open called) = 0
returns_shown (call.Stopping called) = 0
returns_shown (call.Back called back) = 1

abbrev pub begins_shown : ActPhase → ℕ
begins_shown phase.Absent = 0
begins_shown phase.Inside = 0
begins_shown phase.Requested = 0
begins_shown (phase.Ready code size why) = 0
begins_shown (phase.Running class progress) = 1
begins_shown phase.Ended = 1
begins_shown phase.Dropped = 0
begins_shown phase.Asked = 0

abbrev pub ends_shown : ActPhase → ℕ
ends_shown phase.Absent = 0
ends_shown phase.Inside = 0
ends_shown phase.Requested = 0
ends_shown (phase.Ready code size why) = 0
ends_shown (phase.Running class progress) = 0
ends_shown phase.Ended = 1
ends_shown phase.Dropped = 0
ends_shown phase.Asked = 0

abbrev pub drops_shown : ActPhase → ℕ
drops_shown phase.Absent = 0
drops_shown phase.Inside = 0
drops_shown phase.Requested = 0
drops_shown (phase.Ready code size why) = 0
drops_shown (phase.Running class progress) = 0
drops_shown phase.Ended = 0
drops_shown phase.Dropped = 1
drops_shown phase.Asked = 0

-- at most so many completions
abbrev pub completions_shown : ActPhase → ℕ
completions_shown phase.Absent = 0
completions_shown phase.Inside = 0
completions_shown phase.Requested = 0
completions_shown (phase.Ready code size why) = 1
completions_shown (phase.Running class progress) = 1
completions_shown phase.Ended = 1
completions_shown phase.Dropped = 1
completions_shown phase.Asked = 0

-- a number that the accepted act has at each of its phases
accepted-by : (f : ActPhase → ℕ) (inline posting operation control : Bool) → f phase.Inside ≡ 0 →
    f phase.Requested ≡ 0 → f phase.Asked ≡ 0 → f phase.Absent ≡ 0 → (ready : ActPhase) → f ready ≡ 0 →
    f (cond inline phase.Inside (cond posting ready (cond operation phase.Requested (cond control phase.Asked phase.Absent)))) ≡ 0
accepted-by f true posting operation control a b c d ready e = a
accepted-by f false true operation control a b c d ready e = e
accepted-by f false false true control a b c d ready e = b
accepted-by f false false false true a b c d ready e = c
accepted-by f false false false false a b c d ready e = d

pub accepted-none : (f : ActPhase → ℕ) → f phase.Inside ≡ 0 → f phase.Requested ≡ 0 → f phase.Asked ≡ 0 →
    f phase.Absent ≡ 0 → f (phase.Ready code.Ok 0 cause.Posted) ≡ 0 → (script : ScriptModel) (n : ℕ) →
    f (accepted script n) ≡ 0
accepted-none f a b c d e script n =
    accepted-by f (is_inline script n) (is_act is_posting script n) (is_act is_operation script n)
    (is_act is_control script n) a b c d (phase.Ready code.Ok 0 cause.Posted) e

returns-open : (at : ℕ) (made : CallPhase) → is_open made ≡ true →
    returns_shown (returned at made) ≡ returns_shown made + 1
returns-open at call.Uncalled is = absurd (cc)
returns-open at (call.Open called) is = refl
returns-open at (call.Stopping called) is = refl
returns-open at (call.Back called back) is = absurd (cc)

calls-open : (at : ℕ) (made : CallPhase) → calls_shown (returned at made) ≡ calls_shown made
calls-open at call.Uncalled = refl
calls-open at (call.Open called) = refl
calls-open at (call.Stopping called) = refl
calls-open at (call.Back called back) = refl

unspent-none : (old : ActPhase) → is_unspent old ≡ true → drops_shown old ≡ 0
unspent-none phase.Absent is = absurd (cc)
unspent-none phase.Inside is = refl
unspent-none phase.Requested is = refl
unspent-none (phase.Ready code size why) is = refl
unspent-none (phase.Running class progress) is = refl
unspent-none phase.Ended is = refl
unspent-none phase.Dropped is = absurd (cc)
unspent-none phase.Asked is = refl

waiting-none : (old : ActPhase) → is_unspent old ≡ true → is_running old ≡ false →
    (begins_shown old ≡ 0) × (ends_shown old ≡ 0)
waiting-none phase.Absent is isnt = (refl, refl)
waiting-none phase.Inside is isnt = (refl, refl)
waiting-none phase.Requested is isnt = (refl, refl)
waiting-none (phase.Ready code size why) is isnt = (refl, refl)
waiting-none (phase.Running class progress) is isnt = absurd (cc)
waiting-none phase.Ended is isnt = absurd (cc)
waiting-none phase.Dropped is isnt = (refl, refl)
waiting-none phase.Asked is isnt = (refl, refl)

at_most_one : (old : ActPhase) → completions_shown old ≤ 1
at_most_one phase.Absent = omega arith
at_most_one phase.Inside = omega arith
at_most_one phase.Requested = omega arith
at_most_one (phase.Ready code size why) = omega arith
at_most_one (phase.Running class progress) = omega arith
at_most_one phase.Ended = omega arith
at_most_one phase.Dropped = omega arith
at_most_one phase.Asked = omega arith

-- one event more
yes_one : (n : ℕ) → one_if (n == n) ≡ 1
yes_one n = rw (same-is n) refl

no_one : (k : ℕ) (b : Bool) → b ≡ false → k ≡ k + one_if b
no_one k b isnt = rw isnt (omega arith)

one_here : (n k : ℕ) → k ≡ 0 → 1 ≡ k + one_if (n == n)
one_here n k none = let here = yes_one n in omega (arith, none, here)

none_here : (k m : ℕ) → k ≡ m → k ≡ m + 0
none_here k m same = omega (arith, same)

module _ (script : ScriptModel) (n : ℕ) where
  pub calls-moved : (e : Event) (old new : ActState) → Moves script n e old new →
      calls_shown new.call ≡ calls_shown old.call + one_if (is_call_of n e)
  calls-moved e old new (stays isnt) = no_one _ _ (no_call n e isnt)
  calls-moved e old new (further isnt calling more) = no_one _ _ (no_call n e isnt)
  calls-moved e old new initiates = one_here n 0 refl
  calls-moved e old new (comes_back at {made = made} is never) = none_here _ _ (calls-open at made)
  calls-moved e old new halts = refl
  calls-moved e old new starts = omega arith
  calls-moved e old new enters = omega arith
  calls-moved e old new (finishes all) = omega arith
  calls-moved e old new completes = omega arith
  calls-moved e old new (destroys is isnt never) = omega arith

  pub returns-moved : (e : Event) (old new : ActState) → Moves script n e old new →
      returns_shown new.call ≡ returns_shown old.call + one_if (is_return_of n e)
  returns-moved e old new (stays isnt) = no_one _ _ (no_return n e isnt)
  returns-moved e old new (further isnt calling more) = no_one _ _ (no_return n e isnt)
  returns-moved e old new initiates = refl
  returns-moved e old new (comes_back at {made = made} is never) =
      let here = yes_one n in let more = returns-open at made is in omega (arith, here, more)
  returns-moved e old new halts = refl
  returns-moved e old new starts = omega arith
  returns-moved e old new enters = omega arith
  returns-moved e old new (finishes all) = omega arith
  returns-moved e old new completes = omega arith
  returns-moved e old new (destroys is isnt never) = omega arith

  pub begins-moved : (e : Event) (old new : ActState) → Moves script n e old new →
      begins_shown new.phase ≡ begins_shown old.phase + one_if (is_begin_of n e)
  begins-moved e old new (stays isnt) = no_one _ _ (no_begin n e isnt)
  begins-moved e old new (further isnt calling more) = no_one _ _ (no_begin n e isnt)
  begins-moved e old new initiates = accepted-none begins_shown refl refl refl refl refl script n
  begins-moved e old new (comes_back at is never) = omega arith
  begins-moved e old new halts = omega arith
  begins-moved e old new starts = one_here n 0 refl
  begins-moved e old new enters = one_here n 0 refl
  begins-moved e old new (finishes all) = refl
  begins-moved e old new completes = refl
  begins-moved e old new (destroys {old = was} is isnt never) = none_here _ _ (sym (waiting-none was is isnt).0)

  pub ends-moved : (e : Event) (old new : ActState) → Moves script n e old new →
      ends_shown new.phase ≡ ends_shown old.phase + one_if (is_end_of n e)
  ends-moved e old new (stays isnt) = no_one _ _ (no_end n e isnt)
  ends-moved e old new (further isnt calling more) = no_one _ _ (no_end n e isnt)
  ends-moved e old new initiates = accepted-none ends_shown refl refl refl refl refl script n
  ends-moved e old new (comes_back at is never) = omega arith
  ends-moved e old new halts = omega arith
  ends-moved e old new starts = refl
  ends-moved e old new enters = refl
  ends-moved e old new (finishes all) = one_here n 0 refl
  ends-moved e old new completes = refl
  ends-moved e old new (destroys {old = was} is isnt never) = none_here _ _ (sym (waiting-none was is isnt).1)

  pub drops-moved : (e : Event) (old new : ActState) → Moves script n e old new →
      drops_shown new.phase ≡ drops_shown old.phase + one_if (is_drop_of n e)
  drops-moved e old new (stays isnt) = no_one _ _ (no_drop n e isnt)
  drops-moved e old new (further isnt calling more) = no_one _ _ (no_drop n e isnt)
  drops-moved e old new initiates = accepted-none drops_shown refl refl refl refl refl script n
  drops-moved e old new (comes_back at is never) = omega arith
  drops-moved e old new halts = omega arith
  drops-moved e old new starts = refl
  drops-moved e old new enters = refl
  drops-moved e old new (finishes all) = refl
  drops-moved e old new completes = refl
  drops-moved e old new (destroys {old = was} is isnt never) = one_here n _ (unspent-none was is)

  pub completions-moved : (e : Event) (old new : ActState) → Moves script n e old new →
      completions_shown old.phase + one_if (is_completion_of n e) ≤ completions_shown new.phase
  completions-moved e old new (stays isnt) = let none = no_completion n e isnt in rw none (omega arith)
  completions-moved e old new (further isnt calling more) = let none = no_completion n e isnt in rw none (omega arith)
  completions-moved e old new initiates = omega arith
  completions-moved e old new (comes_back at is never) = omega arith
  completions-moved e old new halts = omega arith
  completions-moved e old new starts = omega arith
  completions-moved e old new enters = omega arith
  completions-moved e old new (finishes all) = omega arith
  completions-moved e old new completes = let here = yes_one n in omega (arith, here)
  completions-moved e old new (destroys {old = was} is isnt never) = omega (arith, at_most_one was)
