-- The end of a session: handlers that never ran are destroyed.
use Rattle.std.specs.Prelude.{◌≡◌, ◌<◌, ◌≤◌, ℕ, Bool, true, false, List, [], ◌∷◌, ◌++◌}
use Rattle.std.specs.List.{list_all}
use Rattle.asio_types.specs.declared.event.Event.{Event}
use Rattle.asio_types.specs.declared.event.Event.TheVariants as event
use Rattle.op_handlers.specs.declared.call.Call.{Call}
use Rattle.op_handlers.specs.Marks.{Marks, drop_mark_of, own_marks}
use Rattle.execution_laws.specs.LetGo.{let_go_mark}
use Rattle.history_rules.specs.FromOutside.{has_outside_stop}
use Rattle.execution_laws.specs.Marks.{HasToldMarks}
use Rattle.strand_core.specs.Hands.{Held, held_at}
use Rattle.book_context.specs.Book.{HoldsUnspent}
use Rattle.book_context.specs.DropSteps.{IsDropping}
use Rattle.book_context.specs.Recorded.{IsRecorded, recorded_state}
use Rattle.book_context.specs.Recording.{Recording}

abbrev pub is_drop : Event → Bool
is_drop (event.Dropped op mark) = true
is_drop _ = false

-- a history goes on by drops alone, if at all
pub record GoesOnByDrops (old new : List Event) : Type 0 where
  pub drops : List Event
  pub each : list_all is_drop drops ≡ true
  pub is : new ≡ old ++ drops

-- of a session that was over, the unspent handlers below a number are destroyed by now, and the
-- others are held as then
pub record IsEnding {H : Type 0} (marks : H → Marks) (told : Bool) (run : ℕ → Call → ℕ) (drop : ℕ → ℕ)
    (outside : Bool) (n : ℕ) (t : Recording) (left : Held H) : Type 0 where
  -- what was recorded and held when it was over
  pub last : Recording
  pub held : Held H
  pub recorded : IsRecorded told last
  pub holds : HoldsUnspent marks told run drop last held
  pub dropping : IsDropping told last n t
  pub marked : HasToldMarks (own_marks run) drop t.events
  pub unstopped : outside ≡ false → has_outside_stop t.events ≡ false
  pub set_up : t.events ≡ event.Fault ∷ [] → ⊥
  pub script : left.script ≡ held.script
  pub from : (m : ℕ) → n ≤ m → held_at left m ≡ held_at held m
  -- of those below only the handlers of operations that were never initiated are held
  pub below : (m : ℕ) → m < n →
      drop_mark_of marks (held_at left m) ≡ let_go_mark last.script drop (recorded_state told last) m
