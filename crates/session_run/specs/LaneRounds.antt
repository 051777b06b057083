-- Where the rounds of a script stand on a context without a lock (Asio reference, io_context::run,
-- ::restart).
use Rattle.std.specs.Prelude.{◌≡◌, ℕ, true, false}
use Rattle.session_script.specs.Script.{ScriptModel}
use Rattle.lane_logs.specs.Stand.{Stand, is_round_open}

-- the calls of `open` were made, so many rounds are closed, and nothing of the next has come
pub record AreClosed (count : ℕ) (stand : Stand) : Type 0 where
  pub opened : stand.opening ≡ 0
  pub closed : stand.closings ≡ count
  pub before : stand.restarted ≡ false

-- the round behind so many is open
pub record HasBegun (script : ScriptModel) (count : ℕ) (stand : Stand) : Type 0 where
  pub opened : stand.opening ≡ 0
  pub closed : stand.closings ≡ count
  pub is_open : is_round_open script stand ≡ true
