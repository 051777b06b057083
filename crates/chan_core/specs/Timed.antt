-- A channel beside a proactor: what each tells, and that a wait that completes ends the operations
-- of the channel whose deadline it is. Deadlines of a channel's operations are this project's own.
use Rattle.std.specs.Prelude.{◌≡◌, ◌&&◌, ℕ, Bool, true, false, List, [], ◌∷◌, Option, Some, None, if◌then◌else◌}
use Rattle.asio_types.specs.declared.code.Code.{Code}
use Rattle.asio_types.specs.declared.code.Code.TheVariants as code
use Rattle.session_script.specs.declared.act.Act.{Act}
use Rattle.session_script.specs.declared.act.Act.TheVariants as act
use Rattle.session_script.specs.Script.{ScriptModel, act_of}
use Rattle.history_rules.specs.Kinds.{is_act}
use Rattle.history_rules.specs.Requests.{MayTell, reactor_after_done, slot_in}
use Rattle.history_rules.specs.State.{ReactorHalf}
use Rattle.reactor_trait.specs.Reactor.{Outside}
use Rattle.proactor_core.specs.Proactor.{Follows, ProactorView, tells}
use Rattle.proactor_core.specs.Tables.{slot_left}
use Rattle.chan_core.specs.declared.done.ChanDone.{ChanDone}
use Rattle.chan_core.specs.declared.timed_done.TimedDone.{TimedDone}
use Rattle.chan_core.specs.declared.timed_done.TimedDone.TheVariants as timed_done
use Rattle.chan_core.specs.Channel.{Channel, lapsed}

pub record TimedView (X : Type 0) : Type 0 where
  pub chan : Channel
  pub proactor : ProactorView X

-- whether an act waits for a timer (steady_timer::async_wait)
abbrev pub waits_for_timer : Act → Bool
waits_for_timer (act.Wait timer strand slot filter) = true
waits_for_timer _ = false

abbrev pub succeeds : Code → Bool
succeeds code.Ok = true
succeeds _ = false

-- a channel after an operation of the proactor has completed: a wait with Ok lapses it
abbrev pub after_io : ScriptModel → ℕ → Code → Channel → Channel
after_io script op ended c =
    if is_act waits_for_timer script op && succeeds ended then lapsed op c else c

-- the first completion of the channel is told, and nothing else changes
pub record TellsChan {X : Type 0} (done : ChanDone) (old new : TimedView X) : Type 0 where
  pub first : old.chan.due ≡ done ∷ new.chan.due
  pub others : new ≡ record old { chan = record old.chan { due = new.chan.due } }

-- nothing of the channel is due, and the first completion of the proactor is told
pub record TellsIo {X : Type 0} (told : X → Option Outside) (op : ℕ) (ended : Code) (size : ℕ)
    (old new : TimedView X) : Type 0 where
  pub chan_told : old.chan.due ≡ []
  pub chan : new.chan ≡ after_io old.proactor.script op ended old.chan
  pub first : old.proactor.tables.due.coming
      ≡ record { op = op; outcome = (ended, size) } ∷ new.proactor.tables.due.coming
  pub others : new.proactor ≡ record old.proactor {
    tables =
        slot_left (slot_in (act_of old.proactor.script op)) op
        (record old.proactor.tables { due = new.proactor.tables.due });
  }
  pub allowed : (half : ReactorHalf) → Follows told old.proactor half →
      MayTell old.proactor.script (tells (told old.proactor.reactor)) half op ended size
  pub follows : (half : ReactorHalf) → Follows told old.proactor half →
      Follows told new.proactor (reactor_after_done old.proactor.script half op)

-- what is told next, the channel's completions first
abbrev pub TellsNext : {X : Type 0} → (X → Option Outside) → TimedDone → TimedView X →
    TimedView X → Type 0
TellsNext told (timed_done.Chan done) old new = TellsChan done old new
TellsNext told (timed_done.Io op ended size) old new = TellsIo told op ended size old new
