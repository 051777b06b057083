-- The stops of a history, and those at its last restart: the context is stopped where they differ.
use Rattle.std.proofs.Common.{◌≡◌, ℕ, ◌+◌, ◌≤◌, Bool, true, List, [], ◌∷◌, ◌++◌, None, Some, refl, sym, ap, subst, ◌∙◌, arith}
use Rattle.std.specs.Prelude.{nat_lt}
use Rattle.std.proofs.lemmas.Bool.{le-ltb, lt-ltb}
use Rattle.asio_types.specs.declared.event.Event.{Event}
use Rattle.asio_types.specs.declared.event.Event.TheVariants as event
use Rattle.session_script.specs.Script.{ScriptModel}
use Rattle.history_rules.specs.Legal.{IsLegalFrom, IsLegalSoFar, MayHappen, after_event, context_after, state_from, state_of}
use Rattle.history_rules.specs.State.{State, first_state}
use Rattle.history_merge.proofs.FrameLemmas.{RoundPart, part-after, round_after, round_part}

-- how many stops there were, and how many at the last restart
pub record Halts : Type 0 where
  pub stops : ℕ
  pub base : ℕ

abbrev pub no_halts : Halts
no_halts = record { stops = 0; base = 0 }

abbrev halted : Halts → Halts
halted halts = record halts { stops = halts.stops + 1 }

-- each stop counts, a failure and running out of work among them
abbrev pub halts_with : Event → Halts → Halts
halts_with (event.Stop by) halts = halted halts
halts_with event.Fault halts = halted halts
halts_with event.Ended halts = halted halts
halts_with event.Restart halts = record halts { base = halts.stops }
halts_with _ halts = halts

abbrev pub halts_from : Halts → List Event → Halts
halts_from halts [] = halts
halts_from halts (shown ∷ events) = halts_from (halts_with shown halts) events

abbrev pub halts_of : List Event → Halts
halts_of events = halts_from no_halts events

pub halts-append : (halts : Halts) (xs ys : List Event) →
    halts_from halts (xs ++ ys) ≡ halts_from (halts_from halts xs) ys
halts-append halts [] ys = refl
halts-append halts (x ∷ xs) ys = halts-append (halts_with x halts) xs ys

-- the context is stopped where there were stops since the last restart
pub record IsHalted (is_stopped : Bool) (halts : Halts) : Type 0 where
  pub order : halts.base ≤ halts.stops
  pub stopped : is_stopped ≡ nat_lt halts.base halts.stops

halted_once : (stopped : Bool) (halts : Halts) → IsHalted stopped halts → IsHalted true (halted halts)
halted_once stopped halts is = record {
  order = omega (arith, is.order);
  stopped = sym (lt-ltb halts.base (halts.stops + 1) (omega (arith, is.order)));
}

module _ (script : ScriptModel) (told : Bool) (s : State) (halts : Halts) (is : IsHalted s.context.stopped halts) where
  is_halted : (shown : Event) (stopped : Bool) → (round_after shown (round_part s.context)).stopped ≡ stopped →
      IsHalted stopped (halts_with shown halts) → IsHalted (context_after script s.context shown).stopped (halts_with shown halts)
  is_halted shown stopped after new =
      subst (λ b. IsHalted b (halts_with shown halts))
      (sym (ap (λ (part : RoundPart). part.stopped) (part-after script s.context shown) ∙ after)) new

  -- each event keeps it
  pub halted_after : (shown : Event) → MayHappen script told s shown →
      IsHalted (context_after script s.context shown).stopped (halts_with shown halts)
  halted_after (event.Stop None) may = halted_once s.context.stopped halts is
  halted_after (event.Stop (Some a)) may = halted_once s.context.stopped halts is
  halted_after event.Fault may = halted_once s.context.stopped halts is
  halted_after event.Ended may = halted_once s.context.stopped halts is
  halted_after event.Stopped may = record { order = is.order; stopped = sym may.stopped ∙ is.stopped }
  halted_after event.Restart may = record {
    order = omega arith;
    stopped = sym (le-ltb halts.stops halts.stops (omega arith));
  }
  halted_after (event.Call a) may = is_halted (event.Call a) s.context.stopped refl is
  halted_after (event.Back a) may = is_halted (event.Back a) s.context.stopped refl is
  halted_after (event.Begin o given size) may = is_halted (event.Begin o given size) s.context.stopped refl is
  halted_after (event.End o mark) may = is
  halted_after (event.Take a) may = is
  halted_after (event.Done o given size) may = is
  halted_after (event.Tick now) may = is
  halted_after event.Last may = is
  halted_after event.Polled may = is
  halted_after (event.Dropped o mark) may = is

-- so it is in each legal history
pub halted_from : (script : ScriptModel) (told : Bool) (s : State) (halts : Halts) (events : List Event) →
    IsLegalFrom script told s events → IsHalted s.context.stopped halts →
    IsHalted (state_from script told s events).context.stopped (halts_from halts events)
halted_from script told s halts [] legal is = is
halted_from script told s halts (shown ∷ events) legal is =
    halted_from script told (after_event script told s shown) (halts_with shown halts) events legal.1
    (halted_after script told s halts is shown legal.0)

pub halted_of : (script : ScriptModel) (told : Bool) (events : List Event) → IsLegalSoFar script told events →
    IsHalted (state_of script told events).context.stopped (halts_of events)
halted_of script told events legal =
    halted_from script told (first_state script told) no_halts events legal (record { order = omega arith; stopped = refl })
