-- The handlers that are destroyed in the end, in rising number.
use Rattle.std.specs.Prelude.{◌≡◌, ◌<◌, ◌≤◌, ◌⊎◌, ℕ, ◌+◌, Bool, true, false, not, ◌&&◌, count_by, length}
use Rattle.std.specs.List.{range_with_len, slice_index_or}
use Rattle.asio_types.specs.declared.event.Event.TheVariants as event
use Rattle.session_script.specs.Script.{is_op}
use Rattle.session_script.specs.Lanes.{is_inline}
use Rattle.history_rules.specs.Legal.{IsLegal, IsLegalSoFar}
use Rattle.history_rules.specs.Rounds.{IsOver, MayDrop, is_unspent}
use Rattle.history_rules.specs.State.{ContextState, State, call_at, phase_at}
use Rattle.book_context.specs.Recorded.{IsRecorded, is_spent_at, recorded_half, recorded_state}
use Rattle.book_context.specs.Recording.{Recording, with_event}

abbrev pub is_unspent_at : Bool → Recording → ℕ → Bool
is_unspent_at told r n = is_unspent (phase_at (recorded_state told r).context n)

-- how many handlers are unspent
abbrev pub unspent_count : ContextState → ℕ
unspent_count s = count_by (λ n. is_unspent (phase_at s n)) (range_with_len 0 (length s.acts))

-- an operation is unspent where it was called and its handler wasn't spent; no other act is
abbrev pub UnspentAreCalled : Type 0
UnspentAreCalled =
    (told : Bool) (r : Recording) (n : ℕ) → IsRecorded told r →
    is_unspent_at told r n
    ≡ (is_op r.script n && (slice_index_or r.called n false && not (is_spent_at told r n)))

-- what executes inside its call isn't unspent at rest
abbrev pub InlineAreSpent : Type 0
InlineAreSpent =
    (told : Bool) (r : Recording) (n : ℕ) → IsRecorded told r → is_inline r.script n ≡ true →
    is_unspent_at told r n ≡ false

-- no round is left: all are closed, or the reactor has failed
abbrev pub IsDoneWith : Bool → Recording → Type 0
IsDoneWith told r = (r.closings ≡ length r.script.rounds) ⊎ ((recorded_half told r).failed ≡ true)

-- of what was recorded at the end the unspent handlers below this number are destroyed by now, and
-- no others; in this state
pub record DropsTo (told : Bool) (r : Recording) (n : ℕ) (t : Recording) (s : State) : Type 0 where
  pub script : t.script ≡ r.script
  pub legal : IsLegalSoFar t.script told t.events
  pub over : IsOver t.script s
  pub acts : length s.context.acts ≡ length t.script.acts
  pub below : (m : ℕ) → m < n → is_unspent (phase_at s.context m) ≡ false
  pub from : (m : ℕ) → n ≤ m → phase_at s.context m ≡ phase_at (recorded_state told r).context m
  pub calls : (m : ℕ) → call_at s.context m ≡ call_at (recorded_state told r).context m
  pub reactor : s.reactor ≡ recorded_half told r
  pub called : t.called ≡ r.called
  pub room : unspent_count s.context ≤ t.spare

abbrev pub IsDropping : Bool → Recording → ℕ → Recording → Type 0
IsDropping told r n t = DropsTo told r n t (recorded_state told t)

abbrev pub DroppingBegins : Type 0
DroppingBegins =
    (told : Bool) (r : Recording) → IsRecorded told r → IsDoneWith told r → IsDropping told r 0 r

-- one more handler is destroyed
pub record HasDropped (told : Bool) (r : Recording) (n mark : ℕ) (t : Recording) : Type 0 where
  pub may : MayDrop t.script (recorded_state told t) n
  pub room : 1 ≤ t.spare
  pub next : IsDropping told r (n + 1) (with_event (event.Dropped n mark) t)

abbrev pub DropsGoOn : Type 0
DropsGoOn =
    (told : Bool) (r : Recording) (n mark : ℕ) (t : Recording) →
    IsDropping told r n t → is_unspent_at told r n ≡ true → HasDropped told r n mark t

-- an act that isn't unspent is passed
abbrev pub SpentArePassed : Type 0
SpentArePassed =
    (told : Bool) (r : Recording) (n : ℕ) (t : Recording) →
    IsDropping told r n t → is_unspent_at told r n ≡ false → IsDropping told r (n + 1) t

-- after the last act the history is whole
abbrev pub DroppedAreLegal : Type 0
DroppedAreLegal =
    (told : Bool) (r : Recording) (t : Recording) → IsDropping told r (length r.script.acts) t →
    IsLegal r.script told t.events
