-- The state before the first event.
use Rattle.std.proofs.Common.{◌≡◌, ℕ, zero, suc, Bool, true, false, inl, inr, length, replicate, refl, sym, ap, subst, ◌∙◌, arith}
use Rattle.std.specs.List.{slice_index_or, sum_by}
use Rattle.std.proofs.lemmas.Bool.{cases_lt}
use Rattle.std.proofs.lemmas.List.{get_or-replicate, get_or_past, length-replicate}
use Rattle.std.proofs.lemmas.List.Sums.{sum_by-cons}
use Rattle.session_script.specs.Script.{ScriptModel}
use Rattle.history_rules.specs.Calls.{is_open}
use Rattle.history_rules.specs.Order.{was_taken}
use Rattle.history_rules.specs.Rounds.{is_running}
use Rattle.history_rules.specs.State.{State, act_at, first_state, fresh, no_queues}
use Rattle.history_rules.specs.declared.phase.ActState.{ActState}
use Rattle.history_rules.specs.declared.phase.ActPhase.TheVariants as phase
use Rattle.history_laws.proofs.Sound.{IsKind, IsSound, queued_of}

none_queued : (n k : ℕ) → sum_by (queued_of n) (replicate k no_queues) ≡ 0
none_queued n zero = refl
none_queued n (suc k) =
    let one = sum_by-cons (queued_of n) no_queues (replicate k no_queues) in omega (arith, one, none_queued n k)

pub repeated : {X : Type 0} (x : X) (k n : ℕ) → slice_index_or (replicate k x) n x ≡ x
repeated x k n = elim (cases_lt n k) [
  | inl within ↦ get_or-replicate k n x x within
  | inr past ↦ get_or_past (replicate k x) n x (omega (arith, past, length-replicate k x))
]

module _ (script : ScriptModel) (told : Bool) where
  abbrev s : State
  s = first_state script told

  pub first_act : (n : ℕ) → act_at s.context n ≡ fresh
  first_act n = repeated fresh (length script.acts) n

  pub first_taken : (n : ℕ) → was_taken s.reactor n ≡ false
  first_taken n = repeated false (length script.acts) n

  first_kind : (n : ℕ) → IsKind script n fresh
  first_kind n = record { uncalled = λ uncalled. refl; made = λ made. absurd (made refl) }

  -- it is sound
  pub first_sound : IsSound script (first_state script told)
  first_sound = record {
    acts = length-replicate (length script.acts) fresh;
    takes = length-replicate (length script.acts) false;
    kinds = λ n. subst (IsKind script n) (sym (first_act n)) (first_kind n);
    bodies = λ place n k at ahead. ap (λ (act : ActState). act.call) (first_act n);
    calls = λ n is.
        absurd (let wrong : false ≡ true = sym (ap (λ (act : ActState). is_open act.call) (first_act n)) ∙ is in cc);
    pending = λ n. let none = none_queued n script.world.streams in omega (arith, none);
    closed = λ all. record {
      quiet = λ n. ap (λ (act : ActState). is_running act.phase) (first_act n);
      told = refl;
      turn = refl;
    };
    dropped = λ n is.
        absurd (let wrong : phase.Absent ≡ phase.Dropped = sym (ap (λ (act : ActState). act.phase) (first_act n)) ∙ is in cc);
  }
