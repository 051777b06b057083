-- A handler that executes initiates an operation (Asio reference, Requirements on asynchronous operations), one that
-- has no slot and is of no stream.
use Rattle.std.specs.Prelude.{Bool, true, false}
use Rattle.io_rules.specs.declared.name.Lane.{Lane}
use Rattle.io_rules.specs.declared.name.Lane.TheVariants as lane
use Rattle.io_rules.specs.declared.operation.Operation.{Operation}
use Rattle.io_rules.specs.declared.request.Gone.{Gone}
use Rattle.io_rules.specs.declared.request.Gone.TheVariants as gone
use Rattle.io_rules.specs.Calls.{gone_by, is_lane_gone, is_timer_gone}
use Rattle.io_rules.specs.Names.{Names}
use Rattle.io_rules.specs.Operations.{timer_of}

-- which of its names is gone
abbrev pub gone_for : Names → Lane → Operation → Gone
gone_for names on kind =
    gone_by (is_lane_gone names on) false (is_timer_gone names (timer_of kind)) false

abbrev pub is_any_gone : Gone → Bool
is_any_gone gone.Nothing = false
is_any_gone _ = true

-- where its handler executes: on no strand, if that is gone
abbrev pub lane_left : Lane → Gone → Lane
lane_left on gone.Strand = lane.Own
lane_left on _ = on
