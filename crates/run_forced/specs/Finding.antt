-- What is kept while a run is followed.
use Rattle.std.specs.Prelude.{ℕ, List}
use Rattle.run_lines.specs.declared.line.Line.{Line}
use Rattle.run_forced.specs.declared.finding.Following.{Following}
use Rattle.run_forced.specs.Claims.{AreClaims}
use Rattle.run_forced.specs.Past.{HasFollowed}

-- so many lines were followed, and these are their claims
pub record IsFollowed (run : List Line) (lines : ℕ) (following : Following) : Type 0 where
  pub past : HasFollowed run lines following.past
  pub claims : AreClaims run lines following.claims
