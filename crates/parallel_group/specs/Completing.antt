-- That the members of a group complete.
use Rattle.std.specs.Prelude.{◌≡◌, ℕ, Bool, List, Some, None, Contains, slice_get}
use Rattle.asio_types.specs.declared.event.Event.{Event}
use Rattle.asio_types.specs.declared.event.Event.TheVariants as event
use Rattle.history_rules.specs.Legal.{IsLegal}
use Rattle.group_script.specs.Group.{Group, script_of}
use Rattle.group_script.specs.Limits.{FitsGroup}
use Rattle.parallel_group.specs.Members.{Completes, member_ops}

-- in a whole history of a group each member completes, unless the reactor fails or somebody stops
-- the context
abbrev pub MembersComplete : Type 0
MembersComplete =
    (g : Group) → FitsGroup g → (told : Bool) (events : List Event) →
    IsLegal (script_of g) told events →
    (Contains events event.Fault → ⊥) → (Contains events (event.Stop None) → ⊥) →
    (k op : ℕ) → slice_get (member_ops (script_of g)) k ≡ Some op → Completes events op
