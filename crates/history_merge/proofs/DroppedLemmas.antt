-- Handlers that never ran are destroyed by rising number, and then the history is whole.
use Rattle.std.proofs.Common.{◌≡◌, ◌≢◌, ◌⊎◌, ℕ, zero, suc, ◌+◌, ◌<◌, ◌≤◌, Bool, true, false, cond, List, ◌∷◌, inl, inr, filter, length, map, refl, sym, ap, subst, ◌∙◌, arith}
use Rattle.std.specs.List.{range_with_len}
use Rattle.std.proofs.lemmas.Bool.{cases_eq}
use Rattle.std.proofs.lemmas.List.Elements.{All-from_get_or, All-set}
use Rattle.asio_types.specs.declared.event.Event.{Event}
use Rattle.asio_types.specs.declared.event.Event.TheVariants as event
use Rattle.session_script.specs.Script.{ScriptModel}
use Rattle.history_rules.specs.Legal.{IsLegalFrom, IsWhole, after_event, state_from}
use Rattle.history_rules.specs.Rounds.{AllClosed, IsOver, MayDrop, is_running, is_unspent}
use Rattle.history_rules.specs.State.{State, act_at, call_at, fresh, phase_at}
use Rattle.history_rules.specs.declared.phase.ActPhase.TheVariants as phase
use Rattle.history_rules.specs.declared.phase.ActState.{ActState}
use Rattle.execution_laws.proofs.RestLemmas.{is_within}
use Rattle.execution_laws.proofs.StateLemmas.{act_at-other, act_at-same, length-acts}

-- the drops of those operations from a number on that pass a test
abbrev pub drops_from : (ℕ → ℕ) → (ℕ → Bool) → ℕ → ℕ → List Event
drops_from drop test first count =
    map (λ op. event.Dropped op (drop op)) (filter test (range_with_len first count))

module _ (script : ScriptModel) (told : Bool) (drop : ℕ → ℕ) (test : ℕ → Bool) (s : State)
    (left : (n : ℕ) → is_unspent (phase_at s.context n) ≡ test n) where
  -- the unspent handlers below a number are destroyed by now, and no others
  pub record AreDroppedTo (n : ℕ) (t : State) : Type 0 where
    pub over : IsOver script t
    pub size : length t.context.acts ≡ length s.context.acts
    pub below : (m : ℕ) → m < n → is_unspent (phase_at t.context m) ≡ false
    pub from : (m : ℕ) → n ≤ m → phase_at t.context m ≡ phase_at s.context m
    pub calls : (m : ℕ) → call_at t.context m ≡ call_at s.context m
    pub reactor : t.reactor ≡ s.reactor
    pub closings : t.context.closings ≡ s.context.closings

  module _ (n : ℕ) (t : State) (to : AreDroppedTo n t) where
    passed : test n ≡ false → AreDroppedTo (n + 1) t
    passed isnt = record {
      over = to.over;
      size = to.size;
      below = λ m less. elim (cases_eq m n) [
        | inl same ↦ ap (λ m. is_unspent (phase_at t.context m)) same ∙ (ap is_unspent (to.from n (omega arith)) ∙ (left n ∙ isnt))
        | inr other ↦ to.below m (omega (arith, less, other))
      ];
      from = λ m less. to.from m (omega (arith, less));
      calls = to.calls;
      reactor = to.reactor;
      closings = to.closings;
    }

    module _ (is : test n ≡ true) where
      abbrev u : State
      u = after_event script told t (event.Dropped n (drop n))

      here : is_unspent (phase_at t.context n) ≡ true
      here = ap is_unspent (to.from n (omega arith)) ∙ (left n ∙ is)

      within : n < length t.context.acts
      within =
          is_within t.context n (λ absent. let wrong : false ≡ true = sym (ap is_unspent absent) ∙ here in absurd (cc))

      abbrev dropped_act : ActState
      dropped_act = record (act_at t.context n) { phase = phase.Dropped }

      now : act_at u.context n ≡ dropped_act
      now = act_at-same t.context n dropped_act within

      others : (m : ℕ) → m ≢ n → act_at u.context m ≡ act_at t.context m
      others m apart = act_at-other t.context n dropped_act m apart

      still_over : IsOver script t → IsOver script u
      still_over (inl closed) = inl closed
      still_over (inr failed) =
          inr (failed.0, All-set (λ act. is_running act.phase ≡ false) t.context.acts n dropped_act refl failed.1)

      may : MayDrop script t n
      may = record { over = to.over; next = record { left = here; least = to.below } }

      dropped_one : AreDroppedTo (n + 1) u
      dropped_one = record {
        over = still_over to.over;
        size = length-acts t.context n dropped_act ∙ to.size;
        below = λ m less. elim (cases_eq m n) [
          | inl same ↦ ap (λ m. is_unspent (phase_at u.context m)) same ∙ ap (λ (act : ActState). is_unspent act.phase) now
          | inr other ↦
              ap (λ (act : ActState). is_unspent act.phase) (others m other) ∙ to.below m (omega (arith, less, other))
        ];
        from = λ m less. ap (λ (act : ActState). act.phase) (others m (λ same. absurd (omega (arith, less, same))))
            ∙ to.from m (omega (arith, less));
        calls = λ m. elim (cases_eq m n) [
          | inl same ↦
              ap (λ m. call_at u.context m) same
              ∙ (ap (λ (act : ActState). act.call) now ∙ (to.calls n ∙ ap (λ m. call_at s.context m) (sym same)))
          | inr other ↦ ap (λ (act : ActState). act.call) (others m other) ∙ to.calls m
        ];
        reactor = to.reactor;
        closings = to.closings;
      }

  -- they are destroyed one after another
  pub record AreDropped (first count : ℕ) (t : State) : Type 0 where
    pub legal : IsLegalFrom script told t (drops_from drop test first count)
    pub to : AreDroppedTo (first + count) (state_from script told t (drops_from drop test first count))

  module _ (first count : ℕ) (t : State) (to : AreDroppedTo first t)
      (rest : (u : State) → AreDroppedTo (first + 1) u → AreDropped (first + 1) count u) where
    abbrev later : List Event
    later = drops_from drop test (first + 1) count

    end : first + 1 + count ≡ first + suc count
    end = omega arith

    split : (b : Bool) → test first ≡ b →
        drops_from drop test first (suc count)
        ≡ map (λ op. event.Dropped op (drop op))
        (cond b (first ∷ filter test (range_with_len (first + 1) count)) (filter test (range_with_len (first + 1) count)))
    split b is =
        ap (λ b. map (λ op. event.Dropped op (drop op))
        (cond b (first ∷ filter test (range_with_len (first + 1) count)) (filter test (range_with_len (first + 1) count)))) is

    one_on : (b : Bool) → test first ≡ b → AreDropped first (suc count) t
    one_on true is =
        let u = after_event script told t (event.Dropped first (drop first)) in
        let after = rest u (dropped_one first t to is) in
        record {
          legal = subst (IsLegalFrom script told t) (sym (split true is)) (may first t to is, after.legal);
          to = subst (λ es. AreDroppedTo (first + suc count) (state_from script told t es)) (sym (split true is))
              (subst (λ n. AreDroppedTo n (state_from script told u later)) end after.to);
        }
    one_on false isnt =
        let after = rest t (passed first t to isnt) in
        record {
          legal = subst (IsLegalFrom script told t) (sym (split false isnt)) after.legal;
          to = subst (λ es. AreDroppedTo (first + suc count) (state_from script told t es)) (sym (split false isnt))
              (subst (λ n. AreDroppedTo n (state_from script told t later)) end after.to);
        }

  dropped_on : (count first : ℕ) (t : State) → AreDroppedTo first t → AreDropped first count t
  dropped_on zero first t to =
      let same : first ≡ first + 0 = omega arith in
      record { legal = tt; to = subst (λ n. AreDroppedTo n t) same to }
  dropped_on (suc count) first t to =
      one_on first count t to (λ u next. dropped_on count (first + 1) u next) (test first) refl

  over_whole : (t : State) → IsOver script t → AllClosed script t.context ⊎ (t.reactor.failed ≡ true)
  over_whole t (inl closed) = inl closed
  over_whole t (inr failed) = inr failed.0

  -- the drops of all that is left are legal, and behind them the history is whole
  pub record EndsWhole (t : State) : Type 0 where
    pub legal : IsLegalFrom script told s (drops_from drop test 0 (length script.acts))
    pub whole : IsWhole script t
    pub reactor : t.reactor ≡ s.reactor
    pub calls : (m : ℕ) → call_at t.context m ≡ call_at s.context m

  pub ends_whole : IsOver script s → length s.context.acts ≡ length script.acts →
      EndsWhole (state_from script told s (drops_from drop test 0 (length script.acts)))
  ends_whole over size =
      let first : AreDroppedTo 0 s = record {
        over = over;
        size = refl;
        below = λ m less. absurd (omega (arith, less));
        from = λ m less. refl;
        calls = λ m. refl;
        reactor = refl;
        closings = refl;
      } in
      let last = dropped_on (length script.acts) 0 s first in
      let t = state_from script told s (drops_from drop test 0 (length script.acts)) in
      record {
        legal = last.legal;
        whole = record {
          over = over_whole t last.to.over;
          spent = All-from_get_or (λ act. is_unspent act.phase ≡ false) t.context.acts fresh
              (λ n less. last.to.below n (omega (arith, less, last.to.size, size)));
        };
        reactor = last.to.reactor;
        calls = last.to.calls;
      }
