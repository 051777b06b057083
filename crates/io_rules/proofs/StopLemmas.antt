-- A stop stays until a restart.
use Rattle.std.proofs.Common.{arith, refl, sym, ◌∙◌}
use Rattle.std.proofs.lemmas.Bool.{true≢false}
use Rattle.std.specs.Prelude.{◌≡◌, true, false, List, [], ◌∷◌, ◌++◌}
use Rattle.io_rules.specs.declared.control.Control.TheVariants as control
use Rattle.io_rules.specs.declared.event.Event.{Event}
use Rattle.io_rules.specs.declared.event.Event.TheVariants as event
use Rattle.io_rules.specs.declared.limits.Limits.{Limits}
use Rattle.io_rules.specs.History.{is_restart, is_stop, times}
use Rattle.io_rules.specs.Legal.{after, state_of}
use Rattle.io_rules.specs.State.{ContextState}
use Rattle.io_rules.specs.Stopped.{NothingBeginsStopped}

stopped_by : (stop : Event) (s : ContextState) → is_stop stop ≡ true → (after stop s).stopped ≡ true
stopped_by (event.Changed by control.Stop) s is = refl
stopped_by event.Returned s is = refl
stopped_by (event.Changed by _) s is = absurd (true≢false (sym is))
stopped_by _ s is = absurd (true≢false (sym is))

still : (e : Event) (s : ContextState) → is_restart e ≡ false → s.stopped ≡ true → (after e s).stopped ≡ true
still (event.Changed by control.Stop) s other is = refl
still (event.Changed by _) s other is = is
still event.Returned s other is = refl
still event.Restarted s other is = absurd (true≢false other)
still _ s other is = is

stays : (limits : Limits) (since : List Event) (stop : Event) (past : List Event) → is_stop stop ≡ true →
    times is_restart since ≡ 0 → (state_of limits (since ++ stop ∷ past)).stopped ≡ true
stays limits [] stop past is none = stopped_by stop (state_of limits past) is
stays limits (event.Restarted ∷ since) stop past is none = absurd (omega arith)
stays limits (e ∷ since) stop past is none =
    still e (state_of limits (since ++ stop ∷ past)) refl (stays limits since stop past is none)

pub nothing_begins : NothingBeginsStopped
nothing_begins limits [] stop past legal is none = refl
nothing_begins limits (event.Restarted ∷ since) stop past legal is none = absurd (omega arith)
nothing_begins limits (event.Begun op spares ∷ since) stop past legal is none =
    absurd (true≢false (sym (stays limits since stop past is none) ∙ legal.0.allowed))
nothing_begins limits (e ∷ since) stop past legal is none = nothing_begins limits since stop past legal.1 is none
