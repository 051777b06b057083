-- A sink behind a buffer.
use Rattle.std.specs.Prelude.{ℕ, List, ◌++◌, Option}
use Rattle.std.specs.Option.{option_map}
use Rattle.asio_types.specs.Sink.{Holding}

-- the sink, and what was accepted and isn't written to it yet, with the room behind it
pub record Buffering (K : Type 0) : Type 0 where
  pub inner : K
  pub unsent : Holding

-- bytes with those that aren't written yet behind them, where the bytes are told
abbrev pub with_unsent : Holding → Option (List ℕ) → Option (List ℕ)
with_unsent unsent told = option_map (λ bytes. bytes ++ unsent.bytes) told

-- what was accepted: what the sink got and the buffer holds, in this order
abbrev pub accepted : {K : Type 0} → (K → Option (List ℕ)) → Buffering K → Option (List ℕ)
accepted told sink = with_unsent sink.unsent (told sink.inner)
