-- What may still begin after a stop (Asio reference, io_context::stop; that each lane may begin one
-- more execution is this project's own bound).
use Rattle.std.specs.Prelude.{◌≢◌, map}
use Rattle.std.specs.List.{slice_index_or, slice_set}
use Rattle.asio_types.specs.declared.number.Lane.{Lane}
use Rattle.asio_types.specs.declared.number.Lane.TheVariants as lane
use Rattle.history_rules.specs.declared.phase.Allowance.{Allowance}
use Rattle.history_rules.specs.declared.phase.Allowance.TheVariants as allowance
use Rattle.history_rules.specs.State.{Allowances, ContextState}

abbrev pub allowance_of : Allowances → Lane → Allowance
allowance_of allowances (lane.Strand strand) =
    slice_index_or allowances.strands strand allowance.Nothing
allowance_of allowances (lane.Own op) = allowances.own
allowance_of allowances lane.Reactor = allowances.reactor

-- a private lane has one execution in its life, so nothing is kept of it
abbrev pub with_allowance : Lane → Allowance → Allowances → Allowances
with_allowance (lane.Strand strand) new allowances =
    record allowances { strands = slice_set allowances.strands strand new }
with_allowance (lane.Own op) new allowances = allowances
with_allowance lane.Reactor new allowances = record allowances { reactor = new }

-- a lane may begin something
abbrev pub MayStart : ContextState → Lane → Type 0
MayStart s lane = allowance_of s.allowances lane ≢ allowance.Nothing

-- what is left once something began
abbrev pub less_one : Allowance → Allowance
less_one allowance.Free = allowance.Free
less_one allowance.One = allowance.Nothing
less_one allowance.Nothing = allowance.Nothing

-- something began on the lane
abbrev pub spend : Lane → ContextState → ContextState
spend lane s =
    record s
    { allowances = with_allowance lane (less_one (allowance_of s.allowances lane)) s.allowances }

-- a free lane has one more execution after a stop
abbrev pub at_most_one : Allowance → Allowance
at_most_one allowance.Free = allowance.One
at_most_one allowance.One = allowance.One
at_most_one allowance.Nothing = allowance.Nothing

-- a handler's stop has returned: each free lane may begin one more, and the handler's own lane none
abbrev pub after_stop_on : Lane → Allowances → Allowances
after_stop_on lane allowances = with_allowance lane allowance.Nothing (record {
  strands = map at_most_one allowances.strands;
  own = at_most_one allowances.own;
  reactor = at_most_one allowances.reactor;
})
