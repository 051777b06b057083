-- Some calls of a body, from one call of it that is back to another.
use Rattle.std.proofs.Common.{◌≡◌, ◌⊎◌, ℕ, ◌<◌, ◌≤◌, Bool, true, false, ◌||◌, List, [], ◌++◌, inl, inr, length, refl, sym, ap, subst, ◌∙◌, arith}
use Rattle.std.proofs.Math.Bool.{or-false}
use Rattle.std.proofs.lemmas.Bool.{cases_Bool, false_from_ne_true, or_cases, or_parts}
use Rattle.std.specs.List.{All}
use Rattle.asio_types.specs.Faults.{most_faults}
use Rattle.session_script.specs.Script.{Place, ScriptModel}
use Rattle.history_rules.specs.Order.{called_at}
use Rattle.history_rules.specs.State.{ContextState, ReactorHalf, act_at, call_at}
use Rattle.history_rules.specs.declared.phase.CallPhase.{CallPhase}
use Rattle.history_rules.specs.declared.phase.CallPhase.TheVariants as call
use Rattle.history_rules.specs.declared.phase.ActState.{ActState}
use Rattle.strand_core.specs.Execution.{events_of}
use Rattle.strand_core.specs.declared.posted.Posted.{Posted}
use Rattle.execution_laws.specs.Called.{IsBackSince, are_stopping, is_called}
use Rattle.execution_laws.specs.Ready.{IsCallPast, asked_at}
use Rattle.execution_laws.proofs.ActsCalledLemmas.{acts-append, acts_called, all_called}
use Rattle.execution_laws.proofs.CalledLemmas.{called-append, stopping-append}
use Rattle.execution_laws.proofs.CountLemmas.{later-bound, later-from}
use Rattle.execution_laws.proofs.EventLemmas.{Goes, goes-both, goes-none}
use Rattle.execution_laws.proofs.RisingLemmas.{Rises, rises-append, rises-same}
use Rattle.execution_laws.proofs.StateLemmas.{IsBehind, IsCallKept, IsElsewhere, IsHandlers, elsewhere, kept-both, kept-none}

or-assoc : (a b c : Bool) → ((a || b) || c) ≡ (a || (b || c))
or-assoc true b c = refl
or-assoc false b c = refl

-- an act is still as it was left
pub back_still : (script : ScriptModel) (first earlier n : ℕ) (act later : ActState) → earlier ≤ first → later ≡ act →
    IsBackSince script first n act → IsBackSince script earlier n later
back_still script first earlier n act later before same back =
    record {
      called = back.called;
      back = back.back;
      is = same ∙ back.is;
      since = omega (arith, before, back.since);
      order = back.order;
    }

-- where an act that is back was called
pub asked_since : (script : ScriptModel) (first n : ℕ) (act : ActState) → IsBackSince script first n act →
    first ≤ called_at act.call
asked_since script first n act back =
    let e : called_at act.call ≡ back.called = ap (λ (act : ActState). called_at act.call) back.is in
    omega (arith, e, back.since)

-- and that this is behind us
pub back_past : (script : ScriptModel) (first now n : ℕ) (act : ActState) → IsBackSince script first n act →
    IsCallPast now act.call → called_at act.call < now
back_past script first now n act back past =
    let e : called_at act.call ≡ back.called = ap (λ (act : ActState). called_at act.call) back.is in
    let p : IsCallPast now (call.Back back.called back.back) =
    subst (IsCallPast now) (ap (λ (act : ActState). act.call) back.is) past in
    omega (arith, e, p.0, p.1)

-- what is past stays so
pub past_later : (now later : ℕ) (c : CallPhase) → now ≤ later → IsCallPast now c → IsCallPast later c
past_later now later call.Uncalled less past = tt
past_later now later (call.Open called) less past = omega (arith, less, past)
past_later now later (call.Stopping called) less past = omega (arith, less, past)
past_later now later (call.Back called back) less past = (past.0, omega (arith, less, past.1))

module _ (script : ScriptModel) (told : Bool) (r : ReactorHalf) where
  -- these calls are legal from one context to another; each act that was called is back, and every other is as it was
  pub record Moves (place : Place) (calls : List Posted) (s t : ContextState) : Type 0 where
    pub goes : Goes script told r s calls t
    pub count : length t.acts ≡ length s.acts
    pub own : (n : ℕ) → is_called n calls ≡ true → IsBehind place n
    pub kept : (n : ℕ) → is_called n calls ≡ false → IsElsewhere place n → act_at t n ≡ act_at s n
    pub back : (n : ℕ) → is_called n calls ≡ true → IsBackSince script s.events n (act_at t n)
    pub caller : IsCallKept place s t
    pub opening : IsHandlers place → t.opening ≡ s.opening
    pub closings : t.closings ≡ s.closings
    pub restarted : t.restarted ≡ s.restarted
    pub dropping : t.dropping ≡ s.dropping
    pub turn : t.turn ≡ s.turn
    pub stopped : t.stopped ≡ (s.stopped || are_stopping script calls)
    pub allowed : are_stopping script calls ≡ false → t.allowances ≡ s.allowances
    pub lanes : length t.allowances.strands ≡ length s.allowances.strands
    pub past : t.events < most_faults → (n : ℕ) → is_called n calls ≡ true → IsCallPast t.events (call_at t n)
    pub rising : t.events < most_faults → Rises (asked_at t) (acts_called calls)

  -- the count of events never falls
  pub goes-from : (s t : ContextState) (calls : List Posted) → s.events ≤ most_faults → Goes script told r s calls t →
      s.events ≤ t.events
  goes-from s t calls within goes =
      subst (λ n. s.events ≤ n) (sym goes.count) (later-from (length (events_of script calls)) s.events within)

  pub goes-bound : (s t : ContextState) (calls : List Posted) → s.events ≤ most_faults → Goes script told r s calls t →
      t.events ≤ most_faults
  goes-bound s t calls within goes =
      subst (λ n. n ≤ most_faults) (sym goes.count) (later-bound (length (events_of script calls)) s.events within)

  pub moves-none : (place : Place) (s : ContextState) → Moves place [] s s
  moves-none place s = record {
    goes = goes-none script told r s;
    count = refl;
    own = λ n is. absurd (cc);
    kept = λ n isnt away. refl;
    back = λ n is. absurd (cc);
    caller = kept-none place s;
    opening = λ inside. refl;
    closings = refl;
    restarted = refl;
    dropping = refl;
    turn = refl;
    stopped = sym (or-false s.stopped);
    allowed = λ never. refl;
    lanes = refl;
    past = λ room n is. absurd (cc);
    rising = λ room. tt;
  }

  module _ (place : Place) (s t u : ContextState) (xs ys : List Posted) (within : s.events ≤ most_faults)
      (first : Moves place xs s t) (second : Moves place ys t u)
      (apart : (n : ℕ) → is_called n xs ≡ true → is_called n ys ≡ true → ⊥) where
    called_either : (n : ℕ) → is_called n (xs ++ ys) ≡ true → (is_called n xs ≡ true) ⊎ (is_called n ys ≡ true)
    called_either n is = or_cases (is_called n xs) (is_called n ys) (sym (called-append n xs ys) ∙ is)

    called_neither : (n : ℕ) → is_called n (xs ++ ys) ≡ false → (is_called n xs ≡ false) × (is_called n ys ≡ false)
    called_neither n isnt = or_parts (is_called n xs) (is_called n ys) (sym (called-append n xs ys) ∙ isnt)

    own_both : (n : ℕ) → (is_called n xs ≡ true) ⊎ (is_called n ys ≡ true) → IsBehind place n
    own_both n (inl is) = first.own n is
    own_both n (inr is) = second.own n is

    back_both : (n : ℕ) → (is_called n ys ≡ true) ⊎ (is_called n ys ≡ false) →
        (is_called n xs ≡ true) ⊎ (is_called n ys ≡ true) → IsBackSince script s.events n (act_at u n)
    back_both n (inl again) either =
        back_still script t.events s.events n (act_at u n) (act_at u n) (goes-from s t xs within first.goes) refl
        (second.back n again)
    back_both n (inr never) (inl is) =
        back_still script s.events s.events n (act_at t n) (act_at u n) (omega arith)
        (second.kept n never (elsewhere place n (first.own n is))) (first.back n is)
    back_both n (inr never) (inr is) = absurd (let wrong : true ≡ false = sym is ∙ never in cc)

    neither_stops : are_stopping script (xs ++ ys) ≡ false →
        (are_stopping script xs ≡ false) × (are_stopping script ys ≡ false)
    neither_stops never =
        or_parts (are_stopping script xs) (are_stopping script ys) (sym (stopping-append script xs ys) ∙ never)

    before_end : t.events ≤ u.events
    before_end = goes-from t u ys (goes-bound s t xs within first.goes) second.goes

    -- what the first calls left is there still
    still : (n : ℕ) → is_called n xs ≡ true → act_at u n ≡ act_at t n
    still n is = second.kept n (false_from_ne_true (is_called n ys) (apart n is)) (elsewhere place n (first.own n is))

    past_either : u.events < most_faults → (n : ℕ) → (is_called n xs ≡ true) ⊎ (is_called n ys ≡ true) →
        IsCallPast u.events (call_at u n)
    past_either room n (inl is) =
        subst (IsCallPast u.events) (sym (ap (λ (act : ActState). act.call) (still n is)))
        (past_later t.events u.events (call_at t n) before_end (first.past (omega (arith, room, before_end)) n is))
    past_either room n (inr is) = second.past room n is

    -- what the first calls called was called before what the others call
    before_others : u.events < most_faults → (n : ℕ) → is_called n xs ≡ true → (m : ℕ) → is_called m ys ≡ true →
        asked_at u n < asked_at u m
    before_others room n is m is_too =
        let was : asked_at u n ≡ asked_at t n = ap (λ (act : ActState). called_at act.call) (still n is) in
        let was_past : asked_at t n < t.events =
        back_past script s.events t.events n (act_at t n) (first.back n is) (first.past (omega (arith, room, before_end)) n is) in
        let since : t.events ≤ asked_at u m = asked_since script t.events m (act_at u m) (second.back m is_too) in
        omega (arith, was, was_past, since)

    rising_both : u.events < most_faults → Rises (asked_at u) (acts_called (xs ++ ys))
    rising_both room =
        subst (Rises (asked_at u)) (sym (acts-append xs ys))
        (rises-append (asked_at u) (acts_called xs) (acts_called ys)
        (rises-same (asked_at t) (asked_at u) (acts_called xs)
        (all_called (λ n. asked_at u n ≡ asked_at t n) xs
        (λ n is. ap (λ (act : ActState). called_at act.call) (still n is)))
        (first.rising (omega (arith, room, before_end))))
        (second.rising room)
        (all_called (λ n. All (λ m. asked_at u n < asked_at u m) (acts_called ys)) xs (λ n is. all_called (λ m. asked_at u n < asked_at u m) ys (before_others room n is))))

    pub moves-both : Moves place (xs ++ ys) s u
    moves-both = record {
      goes = goes-both script told r s t u xs ys first.goes second.goes;
      count = second.count ∙ first.count;
      own = λ n is. own_both n (called_either n is);
      kept = λ n isnt away. second.kept n (called_neither n isnt).1 away ∙ first.kept n (called_neither n isnt).0 away;
      back = λ n is. back_both n (cases_Bool (is_called n ys)) (called_either n is);
      caller = kept-both place s t u first.caller second.caller;
      opening = λ inside. second.opening inside ∙ first.opening inside;
      closings = second.closings ∙ first.closings;
      restarted = second.restarted ∙ first.restarted;
      dropping = second.dropping ∙ first.dropping;
      turn = second.turn ∙ first.turn;
      stopped = second.stopped ∙ (ap (λ b. b || are_stopping script ys) first.stopped
          ∙ (or-assoc s.stopped (are_stopping script xs) (are_stopping script ys) ∙ ap (λ b. s.stopped || b) (sym (stopping-append script xs ys))));
      allowed = λ never. second.allowed (neither_stops never).1 ∙ first.allowed (neither_stops never).0;
      lanes = second.lanes ∙ first.lanes;
      past = λ room n is. past_either room n (called_either n is);
      rising = rising_both;
    }
