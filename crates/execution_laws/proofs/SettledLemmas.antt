-- What an act is once its call is back.
use Rattle.std.proofs.Common.{◌≡◌, Bool, true, false, not, ◌&&◌, ◌||◌, Option, Some, None, cond, ℕ, refl, sym, ◌∙◌, ap}
use Rattle.asio_types.specs.declared.code.Code.TheVariants as code
use Rattle.session_script.specs.Script.{ScriptModel, act_of, is_operation}
use Rattle.session_script.specs.Lanes.{is_inline}
use Rattle.history_rules.specs.Calls.{accepted}
use Rattle.history_rules.specs.Kinds.{is_act, is_control, is_posting}
use Rattle.history_rules.specs.Rounds.{is_running}
use Rattle.history_rules.specs.declared.phase.ActPhase.{ActPhase}
use Rattle.history_rules.specs.declared.phase.ActPhase.TheVariants as phase
use Rattle.history_rules.specs.declared.phase.Cause.TheVariants as cause
use Rattle.execution_laws.specs.Called.{settled_phase}
use Rattle.execution_laws.specs.Order.{has_begun}
use Rattle.execution_laws.specs.Rest.{waits_inside}
use Rattle.execution_laws.specs.Work.{is_requested}
use Rattle.execution_laws.specs.Ready.{is_ready}
use Rattle.reactor_turns.specs.Standing.{is_awaited}
use Rattle.history_rules.specs.Order.{is_request}
use Rattle.session_script.specs.declared.act.Act.{Act}

-- what a call accepts, by the kind of its act
unfoldable pub accepted_by : Bool → Bool → Bool → Bool → ActPhase
accepted_by inline posting operation control =
    cond inline phase.Inside (cond posting (phase.Ready code.Ok 0 cause.Posted)
    (cond operation phase.Requested (cond control phase.Asked phase.Absent)))

accepted_quiet : (inline posting operation control : Bool) →
    is_running (accepted_by inline posting operation control) ≡ false
unfolding accepted_by
accepted_quiet true posting operation control = refl
accepted_quiet false true operation control = refl
accepted_quiet false false true control = refl
accepted_quiet false false false true = refl
accepted_quiet false false false false = refl

ready_by : (inline posting operation control : Bool) → is_ready (accepted_by inline posting operation control) ≡ true →
    accepted_by inline posting operation control ≡ phase.Ready code.Ok 0 cause.Posted
unfolding accepted_by
ready_by true posting operation control is = absurd (cc)
ready_by false true operation control is = refl
ready_by false false true control is = absurd (cc)
ready_by false false false true is = absurd (cc)
ready_by false false false false is = absurd (cc)

begun_by : (inline posting operation control : Bool) → has_begun (accepted_by inline posting operation control) ≡ false
unfolding accepted_by
begun_by true posting operation control = refl
begun_by false true operation control = refl
begun_by false false true control = refl
begun_by false false false true = refl
begun_by false false false false = refl

entered_by : (inline posting operation control : Bool) →
    waits_inside (cond inline phase.Ended (accepted_by inline posting operation control)) ≡ false
unfolding accepted_by
entered_by true posting operation control = refl
entered_by false true operation control = refl
entered_by false false true control = refl
entered_by false false false true = refl
entered_by false false false false = refl

request_by : (inline posting operation control : Bool) →
    is_request (accepted_by inline posting operation control) ≡ true →
    (is_requested (accepted_by inline posting operation control) ≡ (operation && not posting))
    × ((operation || control) ≡ true)
unfolding accepted_by
request_by true posting operation control is = absurd (cc)
request_by false true operation control is = absurd (cc)
request_by false false true control is = (refl, refl)
request_by false false false true is = (refl, refl)
request_by false false false false is = absurd (cc)

-- an act that is there and passes a test
abbrev pub passes : (Act → Bool) → Option Act → Bool
passes test None = false
passes test (Some found) = test found

running_by : (inline : Bool) (accepts : ActPhase) → is_running accepts ≡ false →
    is_running (cond inline phase.Ended accepts) ≡ false
running_by true accepts quiet = refl
running_by false accepts quiet = quiet

test_by : (test : ActPhase → Bool) (inline : Bool) (other : ActPhase) → test phase.Inside ≡ false →
    test phase.Ended ≡ false →
    test (cond inline phase.Ended (cond inline phase.Inside other)) ≡ test (cond inline phase.Inside other)
test_by test true other inside ended = ended ∙ sym inside
test_by test false other inside ended = refl

module _ (script : ScriptModel) (n : ℕ) where
  -- no handler runs
  pub settled_quiet : is_running (settled_phase script n) ≡ false
  unfolding accepted_by
  settled_quiet =
      running_by (is_inline script n) (accepted script n) (accepted_quiet (is_inline script n)
      (is_act is_posting script n) (is_act is_operation script n) (is_act is_control script n))

  -- and none is to run inside a call
  pub settled_entered : waits_inside (settled_phase script n) ≡ false
  unfolding accepted_by
  settled_entered =
      entered_by (is_inline script n) (is_act is_posting script n) (is_act is_operation script n) (is_act is_control script n)

  -- it passes a test that neither a dispatch inside its call nor an ended one passes where its call did
  pub settled_test : (test : ActPhase → Bool) → test phase.Inside ≡ false → test phase.Ended ≡ false →
      test (settled_phase script n) ≡ test (accepted script n)
  settled_test test inside ended =
      test_by test (is_inline script n)
      (cond (is_act is_posting script n) (phase.Ready code.Ok 0 cause.Posted) (cond (is_act is_operation script n)
      phase.Requested (cond (is_act is_control script n) phase.Asked phase.Absent))) inside ended

  -- what is ready at once is a posting
  pub accepted_ready : is_ready (accepted script n) ≡ true → accepted script n ≡ phase.Ready code.Ok 0 cause.Posted
  unfolding accepted_by
  accepted_ready is =
      ready_by (is_inline script n) (is_act is_posting script n) (is_act is_operation script n) (is_act is_control script n) is

  pub settled_ready : is_ready (accepted script n) ≡ true → settled_phase script n ≡ phase.Ready code.Ok 0 cause.Posted
  settled_ready is = by_case (is_inline script n) refl
    where
      by_case : (b : Bool) → is_inline script n ≡ b → settled_phase script n ≡ phase.Ready code.Ok 0 cause.Posted
      by_case true inline =
          absurd (let accepts : accepted script n ≡ phase.Inside = rw inline refl in
          let wrong : phase.Inside ≡ phase.Ready code.Ok 0 cause.Posted = sym accepts ∙ accepted_ready is in cc)
      by_case false inline = rw inline (rw inline at (accepted_ready is))

  pub settled_request : is_request (settled_phase script n) ≡ true → settled_phase script n ≡ accepted script n
  settled_request is = by_case (is_inline script n) refl
    where
      by_case : (b : Bool) → is_inline script n ≡ b → settled_phase script n ≡ accepted script n
      by_case true inline =
          absurd (let ended : settled_phase script n ≡ phase.Ended = rw inline refl in
          let wrong : false ≡ true = sym (ap is_request ended) ∙ is in cc)
      by_case false inline = rw inline refl

  -- what asks the reactor is an act, and is requested where it is an asynchronous operation
  pub awaited : is_request (accepted script n) ≡ true →
      (given : Act) × (act_of script n ≡ Some given) × (is_awaited given ≡ is_requested (accepted script n))
  unfolding accepted_by
  awaited is = by_found (act_of script n) refl
    where
      kinds : (is_requested (accepted script n) ≡ (is_act is_operation script n && not (is_act is_posting script n)))
          × ((is_act is_operation script n || is_act is_control script n) ≡ true)
      kinds =
          request_by (is_inline script n) (is_act is_posting script n) (is_act is_operation script n)
          (is_act is_control script n) is

      by_found : (found : Option Act) → act_of script n ≡ found →
          (given : Act) × (act_of script n ≡ Some given) × (is_awaited given ≡ is_requested (accepted script n))
      by_found None there =
          absurd (let wrong : false ≡ true =
          sym (ap (λ found. passes is_operation found || passes is_control found) there) ∙ kinds.1 in
          cc)
      by_found (Some given) there =
          (given, there, sym (kinds.0 ∙ ap (λ found. passes is_operation found && not (passes is_posting found)) there))

  -- what executes inside its call has begun
  pub settled_begun : is_inline script n ≡ true → has_begun (settled_phase script n) ≡ true
  settled_begun inline = rw inline refl
