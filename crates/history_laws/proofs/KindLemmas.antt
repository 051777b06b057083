-- Kinds of acts, and of what they become.
use Rattle.std.proofs.Common.{◌≡◌, ◌≢◌, ℕ, Bool, true, false, cond, List, Option, Some, None, refl, sym, ap, subst, ◌∙◌}
use Rattle.std.specs.Prelude.{slice_get}
use Rattle.asio_types.specs.declared.event.Event.{Event}
use Rattle.asio_types.specs.declared.code.Code.{Code}
use Rattle.asio_types.specs.declared.code.Code.TheVariants as code
use Rattle.asio_types.specs.declared.number.Lane.{Lane}
use Rattle.session_script.specs.declared.act.Act.{Act}
use Rattle.session_script.specs.declared.act.Act.TheVariants as act
use Rattle.session_script.specs.Script.{Entry, Place, ScriptModel, is_op, is_operation, is_stop, parent_of, stops}
use Rattle.session_script.specs.Lanes.{caller_lane, is_inline, is_inside, lanes_of}
use Rattle.history_rules.specs.Calls.{is_open, returned}
use Rattle.history_rules.specs.Kinds.{is_act, is_control, is_posting}
use Rattle.history_rules.specs.Rounds.{is_unspent}
use Rattle.history_rules.specs.declared.phase.ActPhase.{ActPhase}
use Rattle.history_rules.specs.declared.phase.ActPhase.TheVariants as phase
use Rattle.history_rules.specs.declared.phase.ActState.{ActState}
use Rattle.history_rules.specs.declared.phase.CallPhase.{CallPhase}
use Rattle.history_rules.specs.declared.phase.CallPhase.TheVariants as call
use Rattle.history_rules.specs.declared.phase.Cause.{Cause}
use Rattle.history_rules.specs.declared.phase.Cause.TheVariants as cause
use Rattle.history_laws.proofs.Moves.{Moves, comes_back, completes, destroys, enters, finishes, further, halts, initiates, starts, stays}
use Rattle.history_laws.proofs.Sound.{IsKind, IsPhaseOf}

-- what executes inside its call is a posting, and no stop
inside_posts : (caller : Option Lane) (it : Act) → is_inside caller it ≡ true →
    (is_posting it ≡ true) × (is_stop it ≡ false) × (is_operation it ≡ true)
inside_posts (Some caller) (act.Dispatch strand) inside = (refl, refl, refl)
inside_posts (Some caller) _ inside = absurd (cc)
inside_posts None _ inside = absurd (cc)

posting_operates : (it : Act) → is_posting it ≡ true → is_operation it ≡ true
posting_operates (act.Post strand) is = refl
posting_operates (act.Defer strand) is = refl
posting_operates (act.Dispatch strand) is = refl
posting_operates _ is = absurd (cc)

stop_operates : (it : Act) → is_stop it ≡ true → is_operation it ≡ false
stop_operates act.Stop is = refl
stop_operates _ is = absurd (cc)

module _ (script : ScriptModel) (n : ℕ) where
  -- what is known of each act by its number
  abbrev IsWith : (Bool → Bool → Bool → Type 0) → Type 0
  IsWith P = P (is_act is_posting script n) (is_act is_stop script n) (is_op script n)

  -- the two words for an operation
  pub op-is : is_act is_operation script n ≡ is_op script n
  op-is = by_entry (slice_get script.acts n) refl
    where
      by_entry : (found : Option Entry) → slice_get script.acts n ≡ found →
          is_act is_operation script n ≡ is_op script n
      by_entry None there = rw there refl
      by_entry (Some entry) there = rw there refl

  pub posting_is_op : is_act is_posting script n ≡ true → is_op script n ≡ true
  posting_is_op = by_entry (slice_get script.acts n) refl
    where
      by_entry : (found : Option Entry) → slice_get script.acts n ≡ found → is_act is_posting script n ≡ true →
          is_op script n ≡ true
      by_entry None there is = absurd (cc (rw there at is))
      by_entry (Some entry) there is = rw there (posting_operates entry.act (rw there at is))

  -- the two words for a stop
  pub stops-is : is_act is_stop script n ≡ stops script n
  stops-is = by_entry (slice_get script.acts n) refl
    where
      by_entry : (found : Option Entry) → slice_get script.acts n ≡ found → is_act is_stop script n ≡ stops script n
      by_entry None there = rw there refl
      by_entry (Some entry) there = rw there refl

  -- no stop is an operation
  pub stop_no_op : is_act is_stop script n ≡ true → is_op script n ≡ false
  stop_no_op = by_entry (slice_get script.acts n) refl
    where
      by_entry : (found : Option Entry) → slice_get script.acts n ≡ found → is_act is_stop script n ≡ true →
          is_op script n ≡ false
      by_entry None there is = rw there refl
      by_entry (Some entry) there is = rw there (stop_operates entry.act (rw there at is))

  inline_kind : is_inline script n ≡ true →
      (is_act is_posting script n ≡ true) × (is_act is_stop script n ≡ false) × (is_op script n ≡ true)
  inline_kind inline = by_entry (slice_get script.acts n) refl
    where
      by_entry : (found : Option Entry) → slice_get script.acts n ≡ found →
          (is_act is_posting script n ≡ true) × (is_act is_stop script n ≡ false) × (is_op script n ≡ true)
      by_entry None there = absurd (cc (rw there at inline))
      by_entry (Some entry) there =
          rw there (inside_posts (caller_lane (lanes_of script) (parent_of script n)) entry.act (rw there at inline))

  pub inline_posts : is_inline script n ≡ true → is_act is_posting script n ≡ true
  inline_posts inline = (inline_kind inline).0

  pub inline_no_stop : is_inline script n ≡ true → is_act is_stop script n ≡ false
  inline_no_stop inline = (inline_kind inline).1

  pub inline_is_op : is_inline script n ≡ true → is_op script n ≡ true
  inline_is_op inline = (inline_kind inline).2

not_open_inside : (lanes : List Lane) (it : Act) → is_inside (caller_lane lanes None) it ≡ true → ⊥
not_open_inside lanes it inside = absurd (cc)

-- no dispatch in `open` executes inside its call
pub inline_not_opening : (script : ScriptModel) (n : ℕ) → parent_of script n ≡ None → is_inline script n ≡ true → ⊥
inline_not_opening script n is inline = by_entry (slice_get script.acts n) refl
  where
    by_entry : (found : Option Entry) → slice_get script.acts n ≡ found → ⊥
    by_entry None there = absurd (cc (rw there at inline))
    by_entry (Some entry) there =
        let inside : is_inside (caller_lane (lanes_of script) (parent_of script n)) entry.act ≡ true =
        rw there at inline in
        not_open_inside (lanes_of script) entry.act
        (subst (λ (place : Place). is_inside (caller_lane (lanes_of script) place) entry.act ≡ true) is inside)

accepted_kind : (script : ScriptModel) (n at : ℕ) (inline posting operation control : Bool) →
    is_inline script n ≡ inline → is_act is_posting script n ≡ posting → is_act is_operation script n ≡ operation →
    IsPhaseOf script n (call.Open at) (cond inline phase.Inside (cond posting (phase.Ready code.Ok 0 cause.Posted)
    (cond operation phase.Requested (cond control phase.Asked phase.Absent))))
accepted_kind script n at true posting operation control a b c = (a, refl)
accepted_kind script n at false true operation control a b c = (b, refl, refl)
accepted_kind script n at false false true control a b c = record { operation = sym (op-is script n) ∙ c; unposted = b }
accepted_kind script n at false false false true a b c = sym (op-is script n) ∙ c
accepted_kind script n at false false false false a b c = sym (op-is script n) ∙ c

-- what an act may have become, where no call is asked for
back_kind : (script : ScriptModel) (n : ℕ) (made other : CallPhase) (p : ActPhase) → p ≢ phase.Inside →
    IsPhaseOf script n made p → IsPhaseOf script n other p
back_kind script n made other phase.Absent never is = is
back_kind script n made other phase.Inside never is = absurd (never refl)
back_kind script n made other phase.Requested never is = is
back_kind script n made other (phase.Ready given size cause.Posted) never is = is
back_kind script n made other (phase.Ready given size (cause.Completed done turn)) never is = is
back_kind script n made other (phase.Running class progress) never is = is
back_kind script n made other phase.Ended never is = is
back_kind script n made other phase.Dropped never is = is
back_kind script n made other phase.Asked never is = is

halted_kind : (script : ScriptModel) (n at : ℕ) (p : ActPhase) → IsPhaseOf script n (call.Open at) p →
    IsPhaseOf script n (call.Stopping at) p
halted_kind script n at phase.Inside is = is
halted_kind script n at phase.Absent is = is
halted_kind script n at phase.Requested is = is
halted_kind script n at (phase.Ready given size cause.Posted) is = is
halted_kind script n at (phase.Ready given size (cause.Completed done turn)) is = is
halted_kind script n at (phase.Running class progress) is = is
halted_kind script n at phase.Ended is = is
halted_kind script n at phase.Dropped is = is
halted_kind script n at phase.Asked is = is

ready_op : (script : ScriptModel) (n : ℕ) (made : CallPhase) (given : Code) (size : ℕ) (why : Cause) →
    IsPhaseOf script n made (phase.Ready given size why) → is_op script n ≡ true
ready_op script n made given size cause.Posted is = posting_is_op script n is.0
ready_op script n made given size (cause.Completed done turn) is = is.operation

unspent_op : (script : ScriptModel) (n : ℕ) (made : CallPhase) (p : ActPhase) → is_unspent p ≡ true →
    IsPhaseOf script n made p → is_op script n ≡ true
unspent_op script n made phase.Inside unspent is = inline_is_op script n is.0
unspent_op script n made phase.Requested unspent is = is.operation
unspent_op script n made (phase.Ready given size cause.Posted) unspent is = posting_is_op script n is.0
unspent_op script n made (phase.Ready given size (cause.Completed done turn)) unspent is = is.operation
unspent_op script n made (phase.Running class progress) unspent is = is
unspent_op script n made _ unspent is = absurd (cc)

back_made : (at : ℕ) (made : CallPhase) → is_open made ≡ true → returned at made ≢ call.Uncalled
back_made at call.Uncalled is = absurd (cc)
back_made at (call.Open called) is = λ same. absurd (cc)
back_made at (call.Stopping called) is = λ same. absurd (cc)
back_made at (call.Back called back) is = absurd (cc)

-- an act that has become something was called
pub was_made : (script : ScriptModel) (n : ℕ) (act : ActState) → IsKind script n act → act.phase ≢ phase.Absent →
    act.call ≢ call.Uncalled
was_made script n act kind became = λ uncalled. became (kind.uncalled uncalled)

unspent_became : (p : ActPhase) → is_unspent p ≡ true → p ≢ phase.Absent
unspent_became p is absent = absurd (let wrong : false ≡ true = sym (ap is_unspent absent) ∙ is in cc)

-- a called act whose phase changed to this
kind_now : (script : ScriptModel) (n : ℕ) (act : ActState) (new : ActPhase) → IsKind script n act →
    act.phase ≢ phase.Absent → (act.call ≢ call.Uncalled → IsPhaseOf script n act.call new) →
    IsKind script n (record act { phase = new })
kind_now script n act new kind became is = record {
  uncalled = λ uncalled. absurd (was_made script n act kind became uncalled);
  made = is;
}

-- kinds stay as they are
pub kind_moved : (script : ScriptModel) (n : ℕ) (e : Event) (old new : ActState) → Moves script n e old new →
    IsKind script n old → IsKind script n new
kind_moved script n e old new (stays isnt) kind = kind
kind_moved script n e old new (further {class = class} {new = now} isnt calling more) kind =
    kind_now script n old (phase.Running class now) kind (λ same. absurd (cc)) (λ is. kind.made is)
kind_moved script n e old new (initiates {at = at}) kind = record {
  uncalled = λ uncalled. absurd (cc);
  made = λ is.
      accepted_kind script n at (is_inline script n) (is_act is_posting script n) (is_act is_operation script n)
      (is_act is_control script n) refl refl refl;
}
kind_moved script n e old new (comes_back at {made = made} {old = was} is never) kind = record {
  uncalled = λ uncalled. absurd (back_made at made is uncalled);
  made = λ called.
      back_kind script n made (returned at made) was never
      (kind.made (λ uncalled. absurd (let wrong : false ≡ true = sym (ap is_open uncalled) ∙ is in cc)));
}
kind_moved script n e old new (halts {at = at} {old = was}) kind = record {
  uncalled = λ uncalled. absurd (cc);
  made = λ called. halted_kind script n at was (kind.made (λ uncalled. absurd (cc)));
}
kind_moved script n e old new (starts {made = made} {code = given} {size = size} {why = why}) kind =
    kind_now script n old new.phase kind (λ same. absurd (cc))
    (λ is. ready_op script n made given size why (kind.made is))
kind_moved script n e old new enters kind =
    kind_now script n old new.phase kind (λ same. absurd (cc)) (λ is. inline_is_op script n (kind.made is).0)
kind_moved script n e old new (finishes all) kind =
    kind_now script n old phase.Ended kind (λ same. absurd (cc)) (λ is. kind.made is)
kind_moved script n e old new completes kind =
    kind_now script n old new.phase kind (λ same. absurd (cc)) (λ is. kind.made is)
kind_moved script n e old new (destroys {made = made} {old = was} is isnt never) kind =
    kind_now script n old phase.Dropped kind (unspent_became was is)
    (λ called. unspent_op script n made was is (kind.made called))
