-- Chains of lines, each of which comes before the next one in each order of a run.
use Rattle.std.specs.Prelude.{◌≡◌, ◌⊎◌, ◌≤◌, ◌<◌, ◌==◌, ℕ, List, if◌then◌else◌, Option, Some, None, nat_eq}
use Rattle.std.specs.HashMap.{get}
use Rattle.run_lines.specs.declared.line.Line.{Line}
use Rattle.run_orders.specs.Forced.{IsForced}
use Rattle.run_forced.specs.declared.chains.Chains.{Chains}
use Rattle.run_forced.specs.declared.clock.Clock.{Clock}
use Rattle.run_forced.specs.declared.clock.Seen.{Seen}
use Rattle.run_forced.specs.Clocks.{names}

abbrev pub chain_of : Chains → ℕ → Option ℕ
chain_of chains place = get nat_eq chains.by_place place

abbrev pub tip_of : Chains → ℕ → Option ℕ
tip_of chains chain = get nat_eq chains.tips chain

-- the chain of a line, and where the chain ends
pub record IsOnChain (chains : Chains) (place chain : ℕ) : Type 0 where
  pub tip : ℕ
  pub tip_is : tip_of chains chain ≡ Some tip
  pub upto : place ≤ tip

-- these lines were put on chains
pub record AreChains (run : List Line) (lines : ℕ) (chains : Chains) : Type 0 where
  pub ordered : (chain first later : ℕ) → chain_of chains first ≡ Some chain → chain_of chains later ≡ Some chain → first < later →
      IsForced run first later
  pub ends : (place chain : ℕ) → chain_of chains place ≡ Some chain → IsOnChain chains place chain
  pub tips : (chain tip : ℕ) → tip_of chains chain ≡ Some tip → chain_of chains tip ≡ Some chain
  pub below : (place chain : ℕ) → chain_of chains place ≡ Some chain → place < lines

-- a clock names a line of the chain of this line, which isn't before it
pub record IsKnown (chains : Chains) (clock : Clock) (place : ℕ) : Type 0 where
  pub seen : Seen
  pub named : names clock seen
  pub on : chain_of chains place ≡ Some seen.chain
  pub upto : place ≤ seen.place

-- a clock names the end of a chain
pub record Reaches (chains : Chains) (clock : Clock) (chain : ℕ) : Type 0 where
  pub seen : Seen
  pub named : names clock seen
  pub same : seen.chain ≡ chain
  pub tip : ℕ
  pub tip_is : tip_of chains chain ≡ Some tip
  pub upto : tip ≤ seen.place

-- the line with this clock may go on a chain
abbrev pub MayGoOn : Chains → Clock → ℕ → Type 0
MayGoOn chains clock chain = Reaches chains clock chain ⊎ (tip_of chains chain ≡ None)

-- a line is put on a chain
pub record IsPut (seen : Seen) (old new : Chains) : Type 0 where
  pub lines : (place : ℕ) → chain_of new place ≡ (if seen.place == place then Some seen.chain else chain_of old place)
  pub tips : (chain : ℕ) → tip_of new chain ≡ (if seen.chain == chain then Some seen.place else tip_of old chain)
