-- What acts are by their kind, once their calls are back.
use Rattle.std.proofs.Common.{◌≡◌, ℕ, ◌+◌, ◌*◌, ◌≤◌, Bool, true, false, cond, Option, Some, None, refl, sym, ◌∙◌, arith}
use Rattle.std.specs.Prelude.{slice_get}
use Rattle.session_script.specs.declared.act.Act.{Act}
use Rattle.session_script.specs.declared.act.Act.TheVariants as act
use Rattle.session_script.specs.Script.{Entry, ScriptModel, is_op, is_operation, is_stop, stops}
use Rattle.session_script.specs.Lanes.{is_inline}
use Rattle.history_rules.specs.Kinds.{is_act, is_control, is_posting}
use Rattle.history_rules.specs.Rounds.{is_unspent}
use Rattle.history_rules.specs.declared.phase.ActPhase.{ActPhase}
use Rattle.history_rules.specs.declared.phase.ActPhase.TheVariants as phase
use Rattle.execution_laws.specs.Called.{settled_phase}
use Rattle.execution_laws.specs.Kinds.{is_accepted, is_spent}
use Rattle.execution_laws.proofs.SettledLemmas.{accepted_by}
use Rattle.book_context.specs.Left.{phase_left}
use Rattle.book_context.proofs.BoundLemmas.{shown_by}
use Rattle.reactor_turns.proofs.SummingLemmas.{one_if}

-- the two words for an operation
op-is : (script : ScriptModel) (n : ℕ) → is_act is_operation script n ≡ is_op script n
op-is script n = by_entry (slice_get script.acts n) refl
  where
    by_entry : (found : Option Entry) → slice_get script.acts n ≡ found → is_act is_operation script n ≡ is_op script n
    by_entry None there = rw there refl
    by_entry (Some entry) there = rw there refl

no_posting : (it : Act) → is_operation it ≡ false → is_posting it ≡ false
no_posting (act.Post strand) isnt = absurd (cc)
no_posting (act.Defer strand) isnt = absurd (cc)
no_posting (act.Dispatch strand) isnt = absurd (cc)
no_posting it isnt = refl

-- what is no operation is no posting
posting-isnt : (script : ScriptModel) (n : ℕ) → is_op script n ≡ false → is_act is_posting script n ≡ false
posting-isnt script n isnt = by_entry (slice_get script.acts n) refl
  where
    by_entry : (found : Option Entry) → slice_get script.acts n ≡ found → is_act is_posting script n ≡ false
    by_entry None there = rw there refl
    by_entry (Some entry) there = rw there (no_posting entry.act (rw there at isnt))

stop_no_operation : (it : Act) → is_stop it ≡ true → is_operation it ≡ false
stop_no_operation act.Stop is = refl
stop_no_operation it is = absurd (cc)

-- a stop act is no operation
operation-isnt : (script : ScriptModel) (n : ℕ) → stops script n ≡ true → is_op script n ≡ false
operation-isnt script n is = by_entry (slice_get script.acts n) refl
  where
    by_entry : (found : Option Entry) → slice_get script.acts n ≡ found → is_op script n ≡ false
    by_entry None there = rw there refl
    by_entry (Some entry) there = rw there (stop_no_operation entry.act (rw there at is))

abbrev settled_by : Bool → Bool → Bool → Bool → ActPhase
settled_by inline posting operation control = cond inline phase.Ended (accepted_by inline posting operation control)

accepted_kind : (inline posting operation control : Bool) → operation ≡ true →
    is_accepted (settled_by inline posting operation control) ≡ true
unfolding accepted_by
accepted_kind true posting operation control is = refl
accepted_kind false true operation control is = refl
accepted_kind false false true control is = refl
accepted_kind false false false control is = absurd (cc)

unspent_kind : (inline posting operation control : Bool) → operation ≡ false → posting ≡ false →
    is_unspent (settled_by inline posting operation control) ≡ false
unfolding accepted_by
unspent_kind true posting operation control is isnt = refl
unspent_kind false true operation control is isnt = absurd (cc)
unspent_kind false false true control is isnt = absurd (cc)
unspent_kind false false false true is isnt = refl
unspent_kind false false false false is isnt = refl

spent_kind : (inline posting operation control : Bool) → is_spent (settled_by inline posting operation control) ≡ inline
unfolding accepted_by
spent_kind true posting operation control = refl
spent_kind false true operation control = refl
spent_kind false false true control = refl
spent_kind false false false true = refl
spent_kind false false false false = refl

left_kind : (inline posting operation control stops : Bool) → (stops ≡ true → operation ≡ false) →
    (operation ≡ false → posting ≡ false) →
    phase_left (settled_by inline posting operation control) false + (2 + one_if stops + 2 * one_if inline) ≤ 7
unfolding accepted_by
left_kind true posting operation control true never only = omega arith
left_kind true posting operation control false never only = omega arith
left_kind false true operation control true never only = omega arith
left_kind false true operation control false never only = omega arith
left_kind false false true control true never only = absurd (let wrong : true ≡ false = never refl in cc)
left_kind false false true control false never only = omega arith
left_kind false false false true true never only = omega arith
left_kind false false false true false never only = omega arith
left_kind false false false false true never only = omega arith
left_kind false false false false false never only = omega arith

module _ (script : ScriptModel) (n : ℕ) where
  -- an operation is accepted
  pub settled_accepted : is_op script n ≡ true → is_accepted (settled_phase script n) ≡ true
  unfolding accepted_by
  settled_accepted is =
      accepted_kind (is_inline script n) (is_act is_posting script n) (is_act is_operation script n)
      (is_act is_control script n) (op-is script n ∙ is)

  -- what has no handler has none unspent
  pub settled_other : is_op script n ≡ false → is_unspent (settled_phase script n) ≡ false
  unfolding accepted_by
  settled_other isnt =
      unspent_kind (is_inline script n) (is_act is_posting script n) (is_act is_operation script n)
      (is_act is_control script n) (op-is script n ∙ isnt) (posting-isnt script n isnt)

  -- what executed inside its call is spent, and nothing else
  pub settled_spent : is_spent (settled_phase script n) ≡ is_inline script n
  unfolding accepted_by
  settled_spent =
      spent_kind (is_inline script n) (is_act is_posting script n) (is_act is_operation script n) (is_act is_control script n)

  pub settled_inline : is_inline script n ≡ true → settled_phase script n ≡ phase.Ended
  settled_inline is = rw is refl

  -- with what its call showed it shows at most seven
  pub settled_left : phase_left (settled_phase script n) false + shown_by script n ≤ 7
  unfolding accepted_by
  settled_left =
      left_kind (is_inline script n) (is_act is_posting script n) (is_act is_operation script n)
      (is_act is_control script n) (stops script n)
      (λ is. op-is script n ∙ operation-isnt script n is) (λ isnt. posting-isnt script n (sym (op-is script n) ∙ isnt))
