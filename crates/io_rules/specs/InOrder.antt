-- Handlers of one strand begin in the order in which they became ready (Asio reference, strand: order
-- of handler invocation), with what its own handlers dispatch to it put first.
use Rattle.std.specs.Prelude.{◌≡◌, List, ◌++◌}
use Rattle.io_rules.specs.declared.event.Event.{Event}
use Rattle.io_rules.specs.declared.limits.Limits.{Limits}
use Rattle.io_rules.specs.declared.name.Name.{Name}
use Rattle.io_rules.specs.declared.place.Place.{Place}
use Rattle.io_rules.specs.History.{begun_in, ready_in}
use Rattle.io_rules.specs.Legal.{IsLegal, state_of}
use Rattle.io_rules.specs.Names.{is_current}
use Rattle.io_rules.specs.State.{ContextState, StrandState, new_strand, strand_at}
use Rattle.std.specs.Prelude.{Bool, true, false}

abbrev pub strand_if : Bool → StrandState → StrandState
strand_if true s = s
strand_if false s = new_strand

-- the strand of a name; of one that is forgotten nothing is left
abbrev pub strand_in : List Place → List StrandState → Name → StrandState
strand_in places strands name = strand_if (is_current places name) (strand_at strands name)

abbrev pub strand_of : ContextState → Name → StrandState
strand_of s name = strand_in s.names.strands s.strands name

-- what became ready on a strand is what began on it, in this order, and then what waits there
abbrev pub BeginInOrder : Type 0
BeginInOrder =
    (limits : Limits) (past : List Event) → IsLegal limits past → (strand : Name) →
    ready_in strand past ≡ begun_in strand past ++ (strand_of (state_of limits past) strand).queue
