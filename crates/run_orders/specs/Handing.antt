-- What is handed over from claim to claim.
use Rattle.std.specs.Prelude.{◌≡◌, ◌<◌, ℕ, List, Some}
use Rattle.run_lines.specs.declared.line.Doing.TheVariants as doing
use Rattle.run_lines.specs.declared.line.Line.{Line}
use Rattle.run_orders.specs.Joins.{IsOverBefore}
use Rattle.run_orders.specs.Trees.{Spot, spot_at}

-- each claim of a thing is given back by a line that is forced before each later claim of it
abbrev pub HandsOver : List Line → ℕ → Type 0
HandsOver run thing = (at next : ℕ) (one two : Spot) → spot_at run at ≡ Some one → spot_at run next ≡ Some two →
    one.line.does ≡ doing.Claim thing → two.line.does ≡ doing.Claim thing → at < next → IsOverBefore run next thing one
