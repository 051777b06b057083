-- What a history shows of an operation and of a strand; its newest event stands first.
use Rattle.std.specs.Prelude.{ℕ, suc, ◌+◌, ◌==◌, Bool, true, false, List, [], ◌∷◌, ◌++◌, Option, Some, None, insert, length, if◌then◌else◌}
use Rattle.io_rules.specs.declared.control.Control.TheVariants as control
use Rattle.io_rules.specs.declared.event.Event.{Event}
use Rattle.io_rules.specs.declared.event.Event.TheVariants as event
use Rattle.io_rules.specs.declared.name.Lane.{Lane}
use Rattle.io_rules.specs.declared.name.Lane.TheVariants as lane
use Rattle.io_rules.specs.declared.name.Name.{Name}
use Rattle.io_rules.specs.declared.request.Gone.{Gone}
use Rattle.io_rules.specs.declared.request.Gone.TheVariants as gone
use Rattle.io_rules.specs.Names.{is_on}
use Rattle.io_rules.specs.Operations.{is_posting}
use Rattle.io_rules.specs.Strands.{Entry, First, Last, Later, entry_of, lane_given}

-- how many events pass the test
abbrev pub times : (Event → Bool) → List Event → ℕ
times test [] = 0
times test (e ∷ past) = if test e then suc (times test past) else times test past

-- the operation is initiated
abbrev pub calls : ℕ → Event → Bool
calls op (event.Called called by request gone) = called == op
calls op _ = false

abbrev pub is_call : Event → Bool
is_call (event.Called called by request gone) = true
is_call _ = false

abbrev pub is_caller : ℕ → Option ℕ → Bool
is_caller op None = false
is_caller op (Some by) = by == op

-- its handler initiates an operation
abbrev pub calls_by : ℕ → Event → Bool
calls_by op (event.Called called by request gone) = is_caller op by
calls_by op _ = false

abbrev pub is_nothing : Gone → Bool
is_nothing gone.Nothing = true
is_nothing gone.Strand = false
is_nothing gone.Other = false

-- it is posted, deferred or dispatched, so that its handler is ready with its call
abbrev pub posts : ℕ → Event → Bool
posts op (event.Called called by request given) =
    if is_nothing given then (if is_posting request.kind then called == op else false) else false
posts op _ = false

-- it completes
abbrev pub completes : ℕ → Event → Bool
completes op (event.Done done code size) = done == op
completes op _ = false

-- its handler begins
abbrev pub begins : ℕ → Event → Bool
begins op (event.Begun begun spares) = begun == op
begins op _ = false

abbrev pub is_begin : Event → Bool
is_begin (event.Begun begun spares) = true
is_begin _ = false

-- its handler has returned
abbrev pub ends : ℕ → Event → Bool
ends op (event.Ended ended mark) = ended == op
ends op _ = false

-- its handler is destroyed
abbrev pub drops : ℕ → Event → Bool
drops op (event.Dropped dropped mark) = dropped == op
drops op _ = false

-- either
abbrev pub is_over : ℕ → Event → Bool
is_over op (event.Ended ended mark) = ended == op
is_over op (event.Dropped dropped mark) = dropped == op
is_over op _ = false

-- the context is stopped, by a call or because it is out of work
abbrev pub is_stop : Event → Bool
is_stop (event.Changed by control.Stop) = true
is_stop event.Returned = true
is_stop _ = false

abbrev pub is_restart : Event → Bool
is_restart event.Restarted = true
is_restart _ = false

-- where the handler of an operation executes
abbrev pub lane_in : List Event → ℕ → Lane
lane_in [] op = lane.Own
lane_in (event.Called called by request gone ∷ past) op =
    if called == op then lane_given request gone else lane_in past op
lane_in (_ ∷ past) op = lane_in past op

-- where the handler that initiates something executes
abbrev pub caller_in : List Event → Option ℕ → Lane
caller_in past None = lane.Own
caller_in past (Some by) = lane_in past by

-- the handlers that began on a strand, oldest first
abbrev pub begun_in : Name → List Event → List ℕ
begun_in strand [] = []
begun_in strand (event.Begun op spares ∷ past) =
    if is_on strand (lane_in past op) then begun_in strand past ++ op ∷ [] else begun_in strand past
begun_in strand (_ ∷ past) = begun_in strand past

abbrev pub one_more_first : Entry → ℕ → ℕ
one_more_first First count = suc count
one_more_first Last count = count
one_more_first Later count = count

-- how many operations the handler that began last on a strand has dispatched to it
abbrev pub dispatched_in : Name → List Event → ℕ
dispatched_in strand [] = 0
dispatched_in strand (event.Called op by request gone ∷ past) =
    if is_on strand (lane_given request gone)
    then one_more_first (entry_of (caller_in past by) request gone) (dispatched_in strand past)
    else dispatched_in strand past
dispatched_in strand (event.Begun op spares ∷ past) =
    if is_on strand (lane_in past op) then 0 else dispatched_in strand past
dispatched_in strand (_ ∷ past) = dispatched_in strand past

-- one that is ready with its call: behind what its own handler dispatched before, or last
abbrev pub ready_with : Entry → ℕ → ℕ → List ℕ → List ℕ
ready_with First at op order = insert order at op
ready_with Last at op order = order ++ op ∷ []
ready_with Later at op order = order

-- what became ready on a strand, in the order in which it is to begin: as it became ready, save that
-- what a handler of the strand dispatches to it goes behind what has begun, before all that waits
abbrev pub ready_in : Name → List Event → List ℕ
ready_in strand [] = []
ready_in strand (event.Called op by request gone ∷ past) =
    if is_on strand (lane_given request gone)
    then ready_with (entry_of (caller_in past by) request gone)
    (length (begun_in strand past) + dispatched_in strand past) op (ready_in strand past)
    else ready_in strand past
ready_in strand (event.Done op code size ∷ past) =
    if is_on strand (lane_in past op) then ready_in strand past ++ op ∷ [] else ready_in strand past
ready_in strand (_ ∷ past) = ready_in strand past
