-- What a history says of scripted time and of the expiries of timers (Asio reference,
-- steady_timer::expires_after and ::expires_at; scripted time is this project's own).
use Rattle.std.specs.Prelude.{◌≡◌, ℕ, ◌+◌, ◌==◌, List, [], ◌∷◌, Option, Some, take, if◌then◌else◌}
use Rattle.asio_types.specs.declared.event.Event.{Event}
use Rattle.asio_types.specs.declared.event.Event.TheVariants as event
use Rattle.session_script.specs.declared.act.Act.{Act}
use Rattle.session_script.specs.declared.act.Act.TheVariants as act
use Rattle.session_script.specs.Script.{ScriptModel, act_of}

-- the time once these events have come, from this one on
abbrev pub time_after : ℕ → List Event → ℕ
time_after now [] = now
time_after now (event.Tick later ∷ events) = time_after later events
time_after now (_ ∷ events) = time_after now events

-- the time at a place
abbrev pub time_at : List Event → ℕ → ℕ
time_at events place = time_after 0 (take place events)

-- what an act that is taken makes of the expiry of a timer
abbrev pub expiry_by : ℕ → ℕ → ℕ → Option Act → ℕ
expiry_by timer now expiry (Some (act.Expires other after)) =
    if other == timer then now + after else expiry
expiry_by timer now expiry (Some (act.ExpiresAt other at)) =
    if other == timer then at else expiry
expiry_by timer now expiry _ = expiry

-- the expiry of a timer once these events have come, from this one on
abbrev pub expiry_after : ScriptModel → ℕ → ℕ → ℕ → List Event → ℕ
expiry_after script timer now expiry [] = expiry
expiry_after script timer now expiry (event.Tick later ∷ events) =
    expiry_after script timer later expiry events
expiry_after script timer now expiry (event.Take a ∷ events) =
    expiry_after script timer now (expiry_by timer now expiry (act_of script a)) events
expiry_after script timer now expiry (_ ∷ events) = expiry_after script timer now expiry events

-- the expiry of a timer at a place
abbrev pub expiry_at : ScriptModel → List Event → ℕ → ℕ → ℕ
expiry_at script events timer place = expiry_after script timer 0 0 (take place events)

-- the act is a wait of this timer
pub record IsWaitOf (script : ScriptModel) (timer n : ℕ) : Type 0 where
  pub strand : Option ℕ
  pub slot : Option ℕ
  pub filter : ℕ
  pub act : act_of script n ≡ Some (act.Wait timer strand slot filter)
