-- What a session of a group's tasks comes to, by what its collecting task got.
use Rattle.std.proofs.Common.{◌≡◌, ℕ, ◌+◌, ◌-◌, Bool, List, [], ◌∷◌, Some, None, inl, inr, length, map, refl, sym, ap, subst, ◌∙◌, arith}
use Rattle.std.specs.Prelude.{Contains, slice_get}
use Rattle.std.proofs.lemmas.List.{length-map}
use Rattle.std.proofs.lemmas.List.Sorted.{length_permutation}
use Rattle.std.specs.Option.{option_map}
use Rattle.std.proofs.lemmas.Option.{slice_get-get_or, slice_get-map, slice_get_within}
use Rattle.asio_types.specs.declared.event.Event.{Event}
use Rattle.asio_types.specs.declared.event.Event.TheVariants as event
use Rattle.session_script.specs.Script.{ScriptModel}
use Rattle.history_rules.specs.Legal.{IsLegal}
use Rattle.history_merge.proofs.AlikeLemmas.{never}
use Rattle.op_future.specs.declared.task_end.TaskEnd.{TaskEnd}
use Rattle.op_future.specs.declared.task_end.TaskEnd.TheVariants as end
use Rattle.op_future.specs.Sessions.{AreEndsOf, HaveGot, IsEndOf, WantsAbsent}
use Rattle.op_future.specs.Tasks.{HasGotThese, TaskState}
use Rattle.parallel_group.specs.Collecting.{Collecting, IsCollecting, none_found, receipt_in, task_state}
use Rattle.parallel_group.specs.Members.{Completes, member_ops}
use Rattle.parallel_group.specs.Orders.{GroupEnds, IsOrderOf, MemberDone}
use Rattle.parallel_group.specs.Placed.{InOrder, IsFirstInOrder, done_in}
use Rattle.parallel_group.specs.Scripts.{IsGroupScript}
use Rattle.parallel_group.proofs.ElementLemmas.{elem_of, some_same}
use Rattle.parallel_group.proofs.EachCompletesLemmas.{each_completes}
use Rattle.parallel_group.proofs.MemberLemmas.{IsMemberOp, member_op}
use Rattle.parallel_group.proofs.OrderLemmas.{sorted_is_order}

no_elements : {X : Type 0} (xs : List X) → length xs ≡ 0 → xs ≡ []
no_elements [] is = refl
no_elements (x ∷ xs) is = absurd (omega (arith, is))

module _ (script : ScriptModel) (workers : ℕ) (of : IsGroupScript script workers) (told : Bool) (events : List Event)
    (legal : IsLegal script told events) (going : Contains events (event.Stop None) → ⊥) (olds news : List TaskState)
    (got : HaveGot script events olds news) (ends : List TaskEnd) (ended : AreEndsOf script events news ends)
    (new : Collecting) (old_is : slice_get olds 0 ≡ Some (task_state (none_found (member_ops script))))
    (new_is : slice_get news 0 ≡ Some (task_state new)) (collecting : IsCollecting (member_ops script) new)
    (now : TaskEnd) (end_is : slice_get ends 0 ≡ Some now) where
  known : (k op : ℕ) → slice_get (member_ops script) k ≡ Some op → IsMemberOp script op
  known k op is =
      subst (λ (s : ScriptModel). IsMemberOp s op) (sym of.is)
      (member_op of.group of.fits k op (subst (λ (s : ScriptModel). slice_get (member_ops s) k ≡ Some op) of.is is))

  completes : (Contains events event.Fault → ⊥) → (k op : ℕ) → slice_get (member_ops script) k ≡ Some op →
      Completes events op
  completes working k op is =
      each_completes of.group of.fits told events (subst (λ (s : ScriptModel). IsLegal s told events) of.is legal) working
      going k op (subst (λ (s : ScriptModel). slice_get (member_ops s) k ≡ Some op) of.is is)

  first : HasGotThese (got.more 0) (task_state (none_found (member_ops script))) (task_state new)
  first = got.each 0 (task_state (none_found (member_ops script))) (task_state new) old_is new_is

  receipts : got.more 0 ≡ map receipt_in new.found
  receipts = sym first.receipts

  -- it wants the operations of all members
  left : length new.ops - length new.found + length new.found ≡ length (member_ops script)
  left =
      let size : length (got.more 0) ≡ length new.found = ap length receipts ∙ length-map new.found receipt_in in
      let all = first.left in
      omega (arith, all, size)

  wants : new.ops ≡ member_ops script
  wants = elim collecting.wants as (λ s. new.ops ≡ member_ops script) [
    | inl all ↦ all
    | inr none ↦
        (let nothing : length new.ops ≡ 0 = ap length none in
        none ∙ sym (no_elements (member_ops script) (let few = collecting.few in let is = left in omega (arith, nothing, few, is))))
  ]

  at_end : IsEndOf script events (task_state new) now
  at_end = ended.each 0 (task_state new) now new_is end_is

  absent_is : (op : ℕ) → WantsAbsent script events (task_state new) → slice_get new.ops (length new.found) ≡ Some op →
      Completes events op → ⊥
  absent_is op absent is done =
      let same : op ≡ absent.op = some_same op absent.op (sym is ∙ absent.wants) in
      absent.absent.undone done.0 done.1 done.2.0
      (elem_of events done.2.0 (event.Done absent.op done.0 done.1)
      (slice_get-get_or events done.2.0 (event.Done op done.0 done.1) done.2.1
      ∙ (ap Some done.2.2 ∙ ap (λ o. Some (event.Done o done.0 done.1)) same)))

  -- a member that is absent didn't complete, so the reactor failed
  absent_fails : WantsAbsent script events (task_state new) → (Contains events event.Fault → ⊥) → ⊥
  absent_fails absent working =
      absent_is absent.op absent absent.wants
      (completes working (length new.found) absent.op
      (ap (λ ops. slice_get ops (length new.found)) (sym wants) ∙ absent.wants))

  unfit : (op : ℕ) → IsEndOf script events (task_state new) (end.Unfit op) → ⊥
  unfit op is =
      never _ is.1
      (known (length new.found) op (ap (λ ops. slice_get ops (length new.found)) (sym wants) ∙ is.0)).cell

  missing_by : (e : TaskEnd) → IsEndOf script events (task_state new) e → (op : ℕ) →
      slice_get new.ops (length new.found) ≡ Some op → Completes events op → ⊥
  missing_by end.Done is op at done =
      absurd (let within = slice_get_within new.ops (length new.found) op at in omega (arith, is, within))
  missing_by (end.Unfit o) is op at done = unfit o is
  missing_by end.Fault is op at done = absent_is op is.0 at done
  missing_by end.Ended is op at done = absent_is op is.0 at done
  missing_by end.Stopped is op at done = absent_is op is.0 at done

  module _ (order : List MemberDone) (in_order : InOrder new.found order) where
    pub is_order : IsOrderOf script events order
    is_order =
        subst (λ (all : List MemberDone). IsOrderOf script events all) (sym in_order.is)
        (sorted_is_order script events new.found
        (λ k one there. (
          (collecting.each k one there).0,
          ap (λ ops. slice_get ops k) (sym wants) ∙ (collecting.each k one there).1,
        )) known
        (λ receipt there. got.hold 0 receipt (slice_get_within olds 0 _ old_is)
        (subst (λ all. Contains all receipt) (sym receipts) there))
        (λ one other here there lane. got.order 0 0 one other (slice_get_within olds 0 _ old_is)
        (slice_get_within olds 0 _ old_is) (subst (λ all. Contains all one) (sym receipts) here)
        (subst (λ all. Contains all other) (sym receipts) there) lane)
        (λ op at done. missing_by now at_end op (ap (λ ops. slice_get ops (length new.found)) wants ∙ at) done)
        in_order.sorted in_order.same in_order.rises)

    size : length order ≡ length new.found
    size =
        ap length in_order.is
        ∙ (length-map in_order.sorted done_in ∙ length_permutation new.found in_order.sorted in_order.same)

    all_size : length (member_ops script) ≡ length new.ops
    all_size = ap length (sym wants)

    ends_by : (e : TaskEnd) → IsEndOf script events (task_state new) e → GroupEnds script events order e
    ends_by end.Done is =
        let same = size in let all = all_size in let few = collecting.few in omega (arith, same, all, few, is)
    ends_by end.Fault is = (
      is.1,
      (let within = slice_get_within new.ops (length new.found) is.0.op is.0.wants in
          let same = size in
          let all = all_size in
          omega (arith, within, same, all)),
    )
    ends_by end.Ended is = absent_fails is.0 is.1.0
    ends_by end.Stopped is = absent_fails is.0 is.1.0
    ends_by (end.Unfit op) is = unfit op is

    pub group_ends : GroupEnds script events order now
    group_ends = ends_by now at_end

-- the tasks of a session, of which the first collects the members
pub record IsRun (script : ScriptModel) (events : List Event) (before after : List Collecting) (ends : List TaskEnd)
    (order : List MemberDone) (now : TaskEnd) : Type 0 where
  pub all : List ℕ
  pub are : all ≡ member_ops script
  pub got : HaveGot script events (map task_state before) (map task_state after)
  pub ended : AreEndsOf script events (map task_state after) ends
  pub starts : slice_get before 0 ≡ Some (none_found all)
  pub first : IsFirstInOrder all after order
  pub end_is : slice_get ends 0 ≡ Some now

first_state : (tasks : List Collecting) (task : Collecting) → slice_get tasks 0 ≡ Some task →
    slice_get (map task_state tasks) 0 ≡ Some (task_state task)
first_state tasks task is = slice_get-map task_state tasks 0 ∙ ap (option_map task_state) is

module _ (script : ScriptModel) (workers : ℕ) (of : IsGroupScript script workers) (told : Bool) (events : List Event)
    (legal : IsLegal script told events) (going : Contains events (event.Stop None) → ⊥) (before after : List Collecting)
    (ends : List TaskEnd) (order : List MemberDone) (now : TaskEnd)
    (run : IsRun script events before after ends order now) where
  starts : slice_get (map task_state before) 0 ≡ Some (task_state (none_found (member_ops script)))
  starts =
      subst (λ (all : List ℕ). slice_get (map task_state before) 0 ≡ Some (task_state (none_found all))) run.are
      (first_state before (none_found run.all) run.starts)

  collecting : IsCollecting (member_ops script) run.first.first
  collecting = subst (λ (all : List ℕ). IsCollecting all run.first.first) run.are run.first.collecting

  pub run_is : IsOrderOf script events order × GroupEnds script events order now
  run_is =
      let own = first_state after run.first.first run.first.is in (
        is_order script workers of told events legal going (map task_state before) (map task_state after) run.got ends
            run.ended run.first.first starts own collecting now run.end_is order run.first.ordered,
        group_ends script workers of told events legal going (map task_state before) (map task_state after) run.got ends
            run.ended run.first.first starts own collecting now run.end_is order run.first.ordered,
      )
