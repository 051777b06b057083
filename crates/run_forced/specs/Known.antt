-- What is known to come before lines of a run.
use Rattle.std.specs.Prelude.{◌≡◌, ◌+◌, ◌≤◌, ℕ, List, Option, Some, nat_eq}
use Rattle.std.specs.HashMap.{get}
use Rattle.run_lines.specs.declared.line.Doing.TheVariants as doing
use Rattle.run_lines.specs.declared.line.Line.{Line}
use Rattle.run_orders.specs.Forced.{IsForced}
use Rattle.run_orders.specs.Trees.{Spot, spot_at}
use Rattle.run_joins.specs.Reaching.{IsUpTo}
use Rattle.run_forced.specs.declared.clock.Clock.{Clock}
use Rattle.run_forced.specs.declared.clock.Seen.{Seen}
use Rattle.run_forced.specs.declared.known.Known.{Known}
use Rattle.run_forced.specs.Chains.{AreChains, chain_of}
use Rattle.run_forced.specs.Clocks.{names}

abbrev pub clock_at : Known → ℕ → Option Clock
clock_at known place = get nat_eq known.clocks place

abbrev pub clock_of_mark : Known → ℕ → Option Clock
clock_of_mark known mark = get nat_eq known.marks mark

-- a clock names the chain of each line that it names
abbrev pub IsOn : Known → Seen → Type 0
IsOn known seen = chain_of known.chains seen.place ≡ Some seen.chain

-- what a clock names comes before this place in each order
abbrev pub IsBefore : List Line → Known → ℕ → Clock → Type 0
IsBefore run known later clock = (seen : Seen) → names clock seen → IsOn known seen × IsForced run seen.place later

-- what a clock names is this place, or comes before it in each order
abbrev pub IsClock : List Line → Known → ℕ → Clock → Type 0
IsClock run known place clock = (seen : Seen) → names clock seen → IsOn known seen × IsUpTo run seen.place place

-- what a clock names comes before each line from there on that waits for this mark
abbrev pub IsMarked : List Line → ℕ → Known → ℕ → Clock → Type 0
IsMarked run lines known mark clock = (seen : Seen) → names clock seen →
    IsOn known seen × ((at : ℕ) (spot : Spot) → spot_at run at ≡ Some spot → lines ≤ at → spot.line.does ≡ doing.After mark →
    IsForced run seen.place at)

-- so many lines are known
pub record Knows (run : List Line) (lines : ℕ) (known : Known) : Type 0 where
  pub chains : AreChains run lines known.chains
  pub clocks : (place : ℕ) (clock : Clock) → clock_at known place ≡ Some clock → IsClock run known place clock
  pub marks : (mark : ℕ) (clock : Clock) → clock_of_mark known mark ≡ Some clock → IsMarked run lines known mark clock

-- lines stay on their chains
abbrev pub StayOn : Known → Known → Type 0
StayOn old new = (seen : Seen) → IsOn old seen → IsOn new seen

-- the next line may have gone on a chain
pub record GoesOn (run : List Line) (place : ℕ) (old new : Known) (next : Clock) : Type 0 where
  pub chains : AreChains run (place + 1) new.chains
  pub clocks : new.clocks ≡ old.clocks
  pub marks : new.marks ≡ old.marks
  pub stay : StayOn old new
  pub clock : IsClock run new place next
