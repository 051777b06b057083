-- What has become of acts, when, and what lanes may begin, along a legal history.
use Rattle.std.proofs.Common.{◌≡◌, ◌≢◌, ◌⊎◌, ℕ, ◌≤◌, Bool, true, false, cond, Option, Some, None, inl, inr, refl, sym, ap, subst, ◌∙◌, arith}
use Rattle.std.specs.Prelude.{slice_get}
use Rattle.std.proofs.lemmas.Bool.{cases_Bool}
use Rattle.asio_types.specs.declared.code.Code.TheVariants as code
use Rattle.asio_types.specs.declared.event.Event.{Event}
use Rattle.asio_types.specs.declared.event.Event.TheVariants as event
use Rattle.session_script.specs.declared.act.Act.{Act}
use Rattle.session_script.specs.declared.act.Act.TheVariants as act
use Rattle.session_script.specs.Lanes.{is_inline}
use Rattle.session_script.specs.Script.{Entry, ScriptModel, is_operation}
use Rattle.history_rules.specs.Calls.{accepted, is_open, returned}
use Rattle.history_rules.specs.Kinds.{is_act, is_control, is_posting}
use Rattle.history_rules.specs.Rounds.{is_running, is_unspent}
use Rattle.history_rules.specs.declared.phase.ActPhase.{ActPhase}
use Rattle.history_rules.specs.declared.phase.ActPhase.TheVariants as phase
use Rattle.history_rules.specs.declared.phase.ActState.{ActState}
use Rattle.history_rules.specs.declared.phase.CallPhase.{CallPhase}
use Rattle.history_rules.specs.declared.phase.CallPhase.TheVariants as call
use Rattle.history_rules.specs.declared.phase.Cause.{Cause}
use Rattle.history_rules.specs.declared.phase.Cause.TheVariants as cause
use Rattle.history_laws.specs.Events.{is_call_of, is_completion_of, is_return_of}
use Rattle.history_laws.proofs.CountLemmas.{same-is}
use Rattle.history_laws.proofs.KindLemmas.{inline_posts}
use Rattle.history_laws.proofs.Moves.{Moves, comes_back, completes, destroys, enters, finishes, further, halts, initiates, starts, stays}

-- what executes inside its call is never ready
abbrev pub IsEntered : ActPhase → Type 0
IsEntered phase.Absent = Unit {0}
IsEntered phase.Inside = Unit {0}
IsEntered phase.Requested = ⊥
IsEntered (phase.Ready given size why) = ⊥
IsEntered (phase.Running class progress) = Unit {0}
IsEntered phase.Ended = Unit {0}
IsEntered phase.Dropped = ⊥
IsEntered phase.Asked = ⊥

-- what an act of its kind may have become
pub record FitsKind (script : ScriptModel) (n : ℕ) (act : ActState) : Type 0 where
  pub inline : is_inline script n ≡ true → IsEntered act.phase
  pub control : is_act is_control script n ≡ true → act.call ≢ call.Uncalled → act.phase ≡ phase.Asked

control_kind : (it : Act) → is_control it ≡ true → (is_posting it ≡ false) × (is_operation it ≡ false)
control_kind (act.Expires timer after) is = (refl, refl)
control_kind (act.ExpiresAt timer at) is = (refl, refl)
control_kind (act.Cancel timer) is = (refl, refl)
control_kind (act.CancelOne timer) is = (refl, refl)
control_kind (act.Emit slot types) is = (refl, refl)
control_kind (act.Close stream) is = (refl, refl)
control_kind (act.Release guard) is = (refl, refl)
control_kind _ is = absurd (cc)

module _ (script : ScriptModel) (n : ℕ) where
  control_only : is_act is_control script n ≡ true →
      (is_act is_posting script n ≡ false) × (is_act is_operation script n ≡ false)
  control_only = by_entry (slice_get script.acts n) refl
    where
      by_entry : (found : Option Entry) → slice_get script.acts n ≡ found → is_act is_control script n ≡ true →
          (is_act is_posting script n ≡ false) × (is_act is_operation script n ≡ false)
      by_entry None there is = absurd (cc (rw there at is))
      by_entry (Some entry) there is = rw there (control_kind entry.act (rw there at is))

  -- a control act asks
  control_asks : is_act is_control script n ≡ true → accepted script n ≡ phase.Asked
  control_asks is =
      let kinds = control_only is in
      let outside : is_inline script n ≡ false =
      elim (cases_Bool (is_inline script n)) [
        | inl inline ↦ absurd (let wrong : true ≡ false = sym (inline_posts script n inline) ∙ kinds.0 in cc)
        | inr outside ↦ outside
      ] in
      asked (is_inline script n) (is_act is_posting script n) (is_act is_operation script n) (is_act is_control script n)
      outside kinds.0 kinds.1 is
    where
      asked : (inline posting operation control : Bool) → inline ≡ false → posting ≡ false → operation ≡ false →
          control ≡ true →
          cond inline phase.Inside (cond posting (phase.Ready code.Ok 0 cause.Posted)
          (cond operation phase.Requested (cond control phase.Asked phase.Absent))) ≡ phase.Asked
      asked false false false true a b c d = refl
      asked true posting operation control a b c d = absurd (cc)
      asked false true operation control a b c d = absurd (cc)
      asked false false true control a b c d = absurd (cc)
      asked false false false false a b c d = absurd (cc)

  inline_inside : is_inline script n ≡ true → accepted script n ≡ phase.Inside
  inline_inside is =
      ap (λ inline. cond inline phase.Inside (cond (is_act is_posting script n) (phase.Ready code.Ok 0 cause.Posted)
      (cond (is_act is_operation script n) phase.Requested (cond (is_act is_control script n) phase.Asked phase.Absent)))) is

  entered_destroyed : (p : ActPhase) → is_unspent p ≡ true → is_running p ≡ false → p ≢ phase.Inside → IsEntered p → ⊥
  entered_destroyed phase.Inside is isnt never entered = never refl
  entered_destroyed (phase.Running class progress) is isnt never entered = absurd (cc)
  entered_destroyed phase.Absent is isnt never entered = absurd (cc)
  entered_destroyed phase.Ended is isnt never entered = absurd (cc)
  entered_destroyed phase.Requested is isnt never entered = entered
  entered_destroyed (phase.Ready given size why) is isnt never entered = entered
  entered_destroyed phase.Dropped is isnt never entered = entered
  entered_destroyed phase.Asked is isnt never entered = entered

  pub kind_stays : (e : Event) (old new : ActState) → Moves script n e old new → FitsKind script n old →
      FitsKind script n new
  kind_stays e old new (stays isnt) fits = fits
  kind_stays e old new (further isnt calling more) fits =
      record { inline = λ is. tt; control = λ is called. absurd (let wrong = fits.control is called in cc) }
  kind_stays e old new initiates fits =
      record { inline = λ is. subst IsEntered (sym (inline_inside is)) tt; control = λ is called. control_asks is }
  kind_stays e old new (comes_back at {made = made} opened never) fits =
      record {
        inline = fits.inline;
        control = λ is called. fits.control is
            (λ same. absurd (let wrong : false ≡ true = sym (ap is_open same) ∙ opened in cc));
      }
  kind_stays e old new halts fits =
      record { inline = fits.inline; control = λ is called. fits.control is (λ same. absurd (cc)) }
  kind_stays e old new starts fits =
      record { inline = λ is. tt; control = λ is called. absurd (let wrong = fits.control is called in cc) }
  kind_stays e old new enters fits =
      record { inline = λ is. tt; control = λ is called. absurd (let wrong = fits.control is called in cc) }
  kind_stays e old new (finishes all) fits =
      record { inline = λ is. tt; control = λ is called. absurd (let wrong = fits.control is called in cc) }
  kind_stays e old new completes fits =
      record {
        inline = λ is. absurd (fits.inline is);
        control = λ is called. absurd (let wrong = fits.control is called in cc);
      }
  kind_stays e old new (destroys {old = was} unspent isnt never) fits =
      record {
        inline = λ is. absurd (entered_destroyed was unspent isnt never (fits.inline is));
        control = λ is called.
            absurd (let wrong : false ≡ true = sym (ap is_unspent (fits.control is called)) ∙ unspent in cc);
      }

-- a call isn't back before it was made
abbrev pub CalledBy : ℕ → CallPhase → Type 0
CalledBy k call.Uncalled = Unit {0}
CalledBy k (call.Open called) = called ≤ k
CalledBy k (call.Stopping called) = called ≤ k
CalledBy k (call.Back called back) = called ≤ back

-- what completes in a turn does so behind its start
abbrev pub ReadyBy : Cause → Type 0
ReadyBy cause.Posted = Unit {0}
ReadyBy (cause.Completed done turn) = turn ≤ done

abbrev pub ReadyIn : ActPhase → Type 0
ReadyIn phase.Absent = Unit {0}
ReadyIn phase.Inside = Unit {0}
ReadyIn phase.Requested = Unit {0}
ReadyIn (phase.Ready given size why) = ReadyBy why
ReadyIn (phase.Running class progress) = Unit {0}
ReadyIn phase.Ended = Unit {0}
ReadyIn phase.Dropped = Unit {0}
ReadyIn phase.Asked = Unit {0}

pub record IsDated (k : ℕ) (act : ActState) : Type 0 where
  pub called : CalledBy k act.call
  pub ready : ReadyIn act.phase

pub called_later : (k m : ℕ) (made : CallPhase) → k ≤ m → CalledBy k made → CalledBy m made
called_later k m call.Uncalled less by = tt
called_later k m (call.Open called) less by = omega (arith, less, by)
called_later k m (call.Stopping called) less by = omega (arith, less, by)
called_later k m (call.Back called back) less by = by

pub returned_later : (k m : ℕ) (made : CallPhase) → CalledBy k made → CalledBy m (returned k made)
returned_later k m call.Uncalled by = tt
returned_later k m (call.Open called) by = by
returned_later k m (call.Stopping called) by = by
returned_later k m (call.Back called back) by = by

pub accepted_ready : (script : ScriptModel) (n : ℕ) → ReadyIn (accepted script n)
accepted_ready script n =
    by_kind (is_inline script n) (is_act is_posting script n) (is_act is_operation script n) (is_act is_control script n)
  where
    by_kind : (inline posting operation control : Bool) →
        ReadyIn (cond inline phase.Inside (cond posting (phase.Ready code.Ok 0 cause.Posted)
        (cond operation phase.Requested (cond control phase.Asked phase.Absent))))
    by_kind true posting operation control = tt
    by_kind false true operation control = tt
    by_kind false false true control = tt
    by_kind false false false true = tt
    by_kind false false false false = tt

pub dated_moved : (script : ScriptModel) (n k m : ℕ) (e : Event) (old new : ActState) → Moves script n e old new →
    is_call_of n e ≡ false → is_return_of n e ≡ false → is_completion_of n e ≡ false → k ≤ m → IsDated k old →
    IsDated m new
dated_moved script n k m e old new (stays isnt) calls returns completed less dated =
    record { called = called_later k m old.call less dated.called; ready = dated.ready }
dated_moved script n k m e old new (further isnt calling more) calls returns completed less dated =
    record { called = called_later k m old.call less dated.called; ready = tt }
dated_moved script n k m e old new initiates calls returns completed less dated =
    absurd (let wrong : true ≡ false = sym (same-is n) ∙ calls in cc)
dated_moved script n k m e old new (comes_back at opened never) calls returns completed less dated =
    absurd (let wrong : true ≡ false = sym (same-is n) ∙ returns in cc)
dated_moved script n k m e old new (halts {at = at}) calls returns completed less dated =
    record { called = called_later k m (call.Stopping at) less dated.called; ready = dated.ready }
dated_moved script n k m e old new starts calls returns completed less dated =
    record { called = called_later k m old.call less dated.called; ready = tt }
dated_moved script n k m e old new enters calls returns completed less dated =
    record { called = called_later k m old.call less dated.called; ready = tt }
dated_moved script n k m e old new (finishes all) calls returns completed less dated =
    record { called = called_later k m old.call less dated.called; ready = tt }
dated_moved script n k m e old new completes calls returns completed less dated =
    absurd (let wrong : true ≡ false = sym (same-is n) ∙ completed in cc)
dated_moved script n k m e old new (destroys is isnt never) calls returns completed less dated =
    record { called = called_later k m old.call less dated.called; ready = tt }

-- a stop that has stopped the context did so before, or just now
pub stopping_moved : (script : ScriptModel) (n at : ℕ) (e : Event) (old new : ActState) → Moves script n e old new →
    new.call ≡ call.Stopping at → (old.call ≡ call.Stopping at) ⊎ (e ≡ event.Stop (Some n))
stopping_moved script n at e old new (stays isnt) is = inl is
stopping_moved script n at e old new (further isnt calling more) is = inl is
stopping_moved script n at e old new initiates is = absurd (cc)
stopping_moved script n at e old new (comes_back place {made = made} opened never) is = absurd (by_call made opened is)
  where
    by_call : (made : CallPhase) → is_open made ≡ true → returned place made ≡ call.Stopping at → ⊥
    by_call call.Uncalled opened is = absurd (cc)
    by_call (call.Open called) opened is = absurd (cc)
    by_call (call.Stopping called) opened is = absurd (cc)
    by_call (call.Back called back) opened is = absurd (cc)
stopping_moved script n at e old new halts is = inr refl
stopping_moved script n at e old new starts is = inl is
stopping_moved script n at e old new enters is = inl is
stopping_moved script n at e old new (finishes all) is = inl is
stopping_moved script n at e old new completes is = inl is
stopping_moved script n at e old new (destroys unspent isnt never) is = inl is
