-- A strand as the rules have it, where what is ready goes by its number alone: it takes the same steps.
use Rattle.std.specs.Prelude.{◌≡◌, ℕ, map}
use Rattle.io_rules.specs.State.{StrandState, new_strand}
use Rattle.io_rules.specs.Strands.{Entry, begun_on, called_on, ended_on, ready_on}
use Rattle.io_strands.specs.declared.ready.ReadyOp.{ReadyOp}
use Rattle.io_strands.specs.Cell.{Cell, begun, called, ended, readied, vacant}

abbrev pub number_of : {H : Type 0} → ReadyOp H → ℕ
number_of op = op.number

abbrev pub numbered : {H S : Type 0} → Cell H S → StrandState
numbered c =
    record { queue = map number_of c.queue; front = c.front; runs = c.runs; tied = c.tied }

-- each step of a strand is the rules' step
pub record StepsAlike (H S : Type 0) : Type 0 where
  pub new : (room : ℕ) → numbered {H = H} {S = S} (vacant room) ≡ new_strand
  pub called : (entry : Entry) (op : ReadyOp H) (c : Cell H S) →
      numbered (called entry op c) ≡ called_on entry op.number (numbered c)
  pub ready : (op : ReadyOp H) (c : Cell H S) →
      numbered (readied op c) ≡ ready_on op.number (numbered c)
  pub begun : (op : ReadyOp H) (c : Cell H S) →
      numbered (begun op c) ≡ begun_on op.number (numbered c)
  pub ended : (state : S) (c : Cell H S) → numbered (ended state c) ≡ ended_on (numbered c)
