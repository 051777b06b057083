-- What holds between the turns of the reactor.
use Rattle.std.specs.Prelude.{ℕ, ◌≡◌, ◌+◌, ◌*◌, ◌^◌, ◌<◌, ◌≤◌, All, length, count_by}
use Rattle.session_script.specs.Limits.{most_acts}
use Rattle.session_script.specs.Script.{ScriptModel}
use Rattle.history_book.specs.QueueRoom.{taken_on}
use Rattle.history_rules.specs.Bounds.{latest, size_at, AllAhead}
use Rattle.history_rules.specs.Rounds.{is_held}
use Rattle.history_rules.specs.Settling.{expiry_of}
use Rattle.history_rules.specs.State.{ReactorHalf}
use Rattle.history_rules.specs.Time.{pending_count}

-- an operation is pending only once it was taken, no wait is due, and times are within bounds
pub record IsSettled (script : ScriptModel) (r : ReactorHalf) : Type 0 where
  pub few : length script.acts ≤ most_acts
  pub acts : length r.taken ≡ length script.acts
  pub counted : count_by is_held r.taken ≡ r.accepted
  pub pending : pending_count r ≤ r.accepted
  pub queued : (stream : ℕ) → size_at r stream ≤ taken_on script r.taken stream
  pub ahead : AllAhead r
  pub now_within : r.now ≤ latest r.accepted
  pub expiries_within : All (λ expiry. expiry ≤ latest r.accepted) r.expiries
