-- One act of a body that executes nothing inside its call.
use Rattle.std.proofs.Common.{◌≡◌, ◌⊎◌, ℕ, ◌+◌, ◌<◌, ◌≤◌, Bool, true, false, ◌||◌, List, [], ◌∷◌, Some, None, inl, inr, length, refl, sym, ap, subst, ◌∙◌, arith}
use Rattle.std.proofs.lemmas.List.Elements.{All-nil}
use Rattle.asio_types.specs.Faults.{most_faults}
use Rattle.session_script.specs.Script.{Place, ScriptModel, stops}
use Rattle.session_script.specs.Lanes.{is_inline}
use Rattle.history_rules.specs.Calls.{has_stopped, is_call_done}
use Rattle.history_rules.specs.State.{Allowances, ContextState, ReactorHalf, act_at, call_at}
use Rattle.history_rules.specs.declared.phase.ActState.{ActState}
use Rattle.history_rules.specs.declared.phase.CallPhase.TheVariants as call
use Rattle.strand_core.specs.declared.posted.Posted.{Posted}
use Rattle.strand_core.specs.declared.posted.Posted.TheVariants as posted
use Rattle.execution_laws.specs.Called.{IsBackSince, are_stopping}
use Rattle.execution_laws.specs.Ready.{IsCallPast, asked_at}
use Rattle.execution_laws.proofs.CountLemmas.{one_more-rose}
use Rattle.execution_laws.proofs.CallLemmas.{IsNext, Opens, Returns, opened_as, opens, returns}
use Rattle.execution_laws.proofs.CalledLemmas.{none_called, one_called}
use Rattle.execution_laws.proofs.EventLemmas.{goes-both}
use Rattle.execution_laws.proofs.MovesLemmas.{Moves, goes-from}
use Rattle.execution_laws.proofs.StateLemmas.{IsAt, IsBehind, IsThere, Touches, both, touches-both}

-- what such a call has done
done_outside : (b inline : Bool) (called : ℕ) (act : ActState) → inline ≡ false → act.call ≡ opened_as b called →
    is_call_done b inline act ≡ true
done_outside true inline called act outside is = ap has_stopped is
done_outside false inline called act outside is = rw outside (rw is refl)

-- its operation is there still
pub there-still : (place : Place) (s t : ContextState) → length t.acts ≡ length s.acts → IsThere s place →
    IsThere t place
there-still None s t same there = tt
there-still (Some at) s t same there = omega (arith, there, same)

-- a body has come to its next call, and what it did on the way
pub record MovesOn (script : ScriptModel) (told : Bool) (r : ReactorHalf) (place : Place) (k : ℕ) (calls : List Posted)
    (s : ContextState) : Type 0 where
  pub after : ContextState
  pub at : IsAt after place (both k)
  pub moves : Moves script told r place calls s after

module _ (script : ScriptModel) (told : Bool) (r : ReactorHalf) (place : Place) (a k : ℕ)
    (is_next : IsNext script told r place a k) (s : ContextState) (within : a < length s.acts) (there : IsThere s place)
    (counted : s.events ≤ most_faults) (at : IsAt s place (both k)) (outside : is_inline script a ≡ false) where
  module _ (b : Bool) (is : stops script a ≡ b) (t u : ContextState) (first : Opens script told r place a k b s t)
      (second : Returns script told r place a k b s.events t u) where
    all_touches : Touches place a s u
    all_touches = touches-both place a s t u first.touches second.touches

    own_act : (n : ℕ) → (a ≡ n) ⊎ (false ≡ true) → IsBehind place n
    own_act n (inl same) = subst (IsBehind place) same is_next.behind
    own_act n (inr never) = absurd (cc)

    back_here : IsBackSince script s.events a (act_at u a)
    back_here = record {
      called = s.events;
      back = t.events;
      is = second.act ∙ (ap (λ (act : ActState). record act { call = call.Back s.events t.events }) first.act
          ∙ ap (λ phase. record { call = call.Back s.events t.events; phase = phase }) (sym (rw outside refl)));
      since = omega arith;
      order = goes-from script told r s t (posted.Call a ∷ []) counted first.goes;
    }

    back_act : (n : ℕ) → (a ≡ n) ⊎ (false ≡ true) → IsBackSince script s.events n (act_at u n)
    back_act n (inl same) = subst (λ n. IsBackSince script s.events n (act_at u n)) same back_here
    back_act n (inr never) = absurd (cc)

    past_act : u.events < most_faults → (n : ℕ) → (a ≡ n) ⊎ (false ≡ true) → IsCallPast u.events (call_at u n)
    past_act room n (inl same) =
        let is_back : call.Back s.events t.events ≡ call_at u a = sym (ap (λ (act : ActState). act.call) second.act) in
        let rose : t.events < u.events =
        subst (λ m. t.events < m) (sym second.goes.count)
        (one_more-rose t.events (subst (λ m. m < most_faults) second.goes.count room)) in
        subst (λ n. IsCallPast u.events (call_at u n)) same (subst (IsCallPast u.events) is_back
        (goes-from script told r s t (posted.Call a ∷ []) counted first.goes, rose))
    past_act room n (inr never) = absurd (cc)

    stops_here : are_stopping script (posted.Call a ∷ posted.Back a ∷ []) ≡ b
    stops_here = by_test b is
      where
        by_test : (c : Bool) → stops script a ≡ c → are_stopping script (posted.Call a ∷ posted.Back a ∷ []) ≡ c
        by_test true same = rw same refl
        by_test false same = rw same refl

    moves_outside : Moves script told r place (posted.Call a ∷ posted.Back a ∷ []) s u
    moves_outside = record {
      goes = goes-both script told r s t u (posted.Call a ∷ []) (posted.Back a ∷ []) first.goes second.goes;
      count = all_touches.count;
      own = λ n called. own_act n (one_called a n false called);
      kept = λ n isnt away. all_touches.kept n (none_called a n false isnt).0 away;
      back = λ n called. back_act n (one_called a n false called);
      caller = all_touches.caller;
      opening = all_touches.opening;
      closings = all_touches.closings;
      restarted = all_touches.restarted;
      dropping = all_touches.dropping;
      turn = all_touches.turn;
      stopped = second.stopped ∙ (first.stopped ∙ ap (λ c. s.stopped || c) (sym stops_here));
      allowed = λ never. second.allowed (sym stops_here ∙ never) ∙ first.allowances;
      lanes = second.lanes ∙ ap (λ (a : Allowances). length a.strands) first.allowances;
      past = λ room n called. past_act room n (one_called a n false called);
      rising = λ room. (All-nil (λ n. asked_at u a < asked_at u n), tt);
    }

  act_by : (b : Bool) → stops script a ≡ b → MovesOn script told r place (k + 1) (posted.Call a ∷ posted.Back a ∷ []) s
  act_by b is =
      let one = opens script told r place a k is_next s within there at b is in
      let size : a < length one.0.acts = omega (arith, within, one.1.touches.count) in
      let open_call : (act_at one.0 a).call ≡ opened_as b s.events = ap (λ (act : ActState). act.call) one.1.act in
      let two =
      returns script told r place a k is_next one.0 size (there-still place s one.0 one.1.touches.count there) b
      s.events is one.1.at open_call
      (done_outside b (is_inline script a) s.events (act_at one.0 a) outside open_call) in
      record { after = two.0; at = two.1.at; moves = moves_outside b is one.0 two.0 one.1 two.1 }

  -- the act is called and is back
  pub act_outside : MovesOn script told r place (k + 1) (posted.Call a ∷ posted.Back a ∷ []) s
  act_outside = act_by (stops script a) refl
