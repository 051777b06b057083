-- A proactor in a turn and between two turns, by the half of a history's state that it follows (Asio
-- reference, Overview, "The Proactor Design Pattern").
use Rattle.std.specs.Prelude.{◌≡◌, Bool, false, IsTrue, Option, Some, None, []}
use Rattle.asio_types.specs.declared.outside.Point.{Point}
use Rattle.session_script.specs.Script.{ScriptModel}
use Rattle.history_rules.specs.Rounds.{IsDrained}
use Rattle.history_rules.specs.State.{ReactorHalf}
use Rattle.reactor_trait.specs.Reactor.{Outside, ReactorState}
use Rattle.proactor_core.specs.Proactor.{Follows, IsSound, ProactorView, after_point, tells}

-- the reactor is set up, goes on telling what it told, and its time is that of the history
pub record ReactorKeepsTime (told : Bool) (half : ReactorHalf) (state : ReactorState)
    (outside : Option Outside) : Type 0 where
  pub tells : tells outside ≡ told
  pub up : IsTrue state.up
  pub now : state.now ≡ half.now

-- the proactor works, and is at this half of a history's state; of its turn something may be left
-- to tell
pub record IsTelling {X : Type 0} (state : X → ReactorState) (told : X → Option Outside)
    (half : ReactorHalf) (view : ProactorView X) : Type 0 where
  pub working : view.tables.failed ≡ false
  pub works : half.failed ≡ false
  pub sound : IsSound state told view
  pub follows : Follows told view half

-- nothing is left to tell
pub record IsTurned {X : Type 0} (state : X → ReactorState) (told : X → Option Outside)
    (half : ReactorHalf) (view : ProactorView X) : Type 0 where
  pub telling : IsTelling state told half view
  pub told_all : view.tables.due.coming ≡ []
  pub none_due : half.due ≡ []
  pub drained : IsDrained half

-- what a time point leaves of the reactor's half, if there was one
abbrev pub moved_half : ScriptModel → Bool → Option Point → ReactorHalf → ReactorHalf
moved_half script told None half = half
moved_half script told (Some point) half = after_point script told point half
