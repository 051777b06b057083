-- In which order the members of a group completed, and how the group ended (Asio reference,
-- experimental::make_parallel_group: the order of completion; wait_for_all and its kin).
use Rattle.std.specs.Prelude.{◌≡◌, ◌<◌, ℕ, List, Some, Contains, length, map, slice_get}
use Rattle.asio_types.specs.declared.event.Event.{Event}
use Rattle.asio_types.specs.declared.event.Event.TheVariants as event
use Rattle.session_script.specs.Script.{ScriptModel}
use Rattle.op_future.specs.declared.task_end.TaskEnd.{TaskEnd}
use Rattle.op_future.specs.declared.task_end.TaskEnd.TheVariants as end
use Rattle.parallel_group.specs.Members.{Completes, member_ops}
-- what a member completed with
pub use Rattle.parallel_group.specs.declared.report.MemberDone.{MemberDone}

abbrev pub member_of : MemberDone → ℕ
member_of one = one.member

module _ (script : ScriptModel) (events : List Event) where
  -- the member's operation completed so, at this place of the history
  pub record CompletedAt (one : MemberDone) (at : ℕ) : Type 0 where
    pub op : ℕ
    pub its : slice_get (member_ops script) one.member ≡ Some op
    pub there : slice_get events at ≡ Some (event.Done op one.code one.size)

  -- the first completed before the second
  pub record CompletesEarlier (one other : MemberDone) : Type 0 where
    pub at : ℕ
    pub later : ℕ
    pub before : at < later
    pub there : CompletedAt one at
    pub then_there : CompletedAt other later

  -- each member before the first that didn't complete, once, in the order of their completions, with
  -- its code and size
  pub record IsOrderOf (order : List MemberDone) : Type 0 where
    -- the first that didn't complete, if there is one
    pub gap : ℕ
    pub completed : (k op : ℕ) → k < gap → slice_get (member_ops script) k ≡ Some op → Completes events op
    pub missing : (op : ℕ) → slice_get (member_ops script) gap ≡ Some op → Completes events op → ⊥
    pub all : (k : ℕ) → k < gap → Contains (map member_of order) k
    pub no_more : length order ≡ gap
    pub each : (i : ℕ) (one : MemberDone) → slice_get order i ≡ Some one → (at : ℕ) × CompletedAt one at
    pub rising : (i j : ℕ) (one other : MemberDone) → i < j → slice_get order i ≡ Some one →
        slice_get order j ≡ Some other → CompletesEarlier one other

  -- how the group ended: all members stand in the order, or one doesn't, and the reactor failed
  abbrev pub GroupEnds : List MemberDone → TaskEnd → Type 0
  GroupEnds order end.Done = length order ≡ length (member_ops script)
  GroupEnds order end.Fault =
      Contains events event.Fault × (length order < length (member_ops script))
  GroupEnds order end.Ended = ⊥
  GroupEnds order end.Stopped = ⊥
  GroupEnds order (end.Unfit op) = ⊥
