-- What a handler posts to a strand that is gone completes at once: what is kept shows the state behind that.
use Rattle.std.proofs.Common.{ap, refl, subst, sym, ◌∙◌, ⊎_elim}
use Rattle.std.proofs.lemmas.Bool.{cases_lt, true≢false}
use Rattle.std.proofs.lemmas.List.{get_or-set_same, set-set, set_past}
use Rattle.std.specs.Prelude.{◌≡◌, ◌<◌, ◌≤◌, ℕ, ◌+◌, ◌-◌, ◌==◌, not, true, false, List, [], ◌∷◌, ◌++◌, Option, Some, None, filter, length, slice_get, if◌then◌else◌}
use Rattle.std.specs.List.{slice_set}
use Rattle.asio_types.specs.declared.code.Code.TheVariants as code
use Rattle.io_rules.specs.declared.event.Event.TheVariants as event
use Rattle.io_rules.specs.declared.limits.Limits.{Limits}
use Rattle.io_rules.specs.declared.name.Lane.{Lane}
use Rattle.io_rules.specs.declared.name.Lane.TheVariants as lane
use Rattle.io_rules.specs.declared.op.Op.{Op}
use Rattle.io_rules.specs.declared.op.Phase.TheVariants as phase
use Rattle.io_rules.specs.declared.op.Wait.{Wait}
use Rattle.io_rules.specs.declared.operation.Operation.{Operation}
use Rattle.io_rules.specs.declared.operation.Operation.TheVariants as operation
use Rattle.io_rules.specs.declared.operation.Side.TheVariants as side
use Rattle.io_rules.specs.declared.request.Gone.{Gone}
use Rattle.io_rules.specs.declared.request.Gone.TheVariants as gone
use Rattle.io_rules.specs.declared.request.Marks.{Marks}
use Rattle.io_rules.specs.Completing.{MayCompleteAs, binding_of, kind_of, others_than, slots_left, streams_left}
use Rattle.io_rules.specs.Legal.{MayHappen, after}
use Rattle.io_rules.specs.Names.{Names}
use Rattle.io_rules.specs.Operations.{behind_connect, target_of}
use Rattle.io_rules.specs.Ops.{lane_of, op_at, with_phase}
use Rattle.io_rules.specs.Room.{place_given, place_given_by}
use Rattle.io_rules.specs.Serving.{served}
use Rattle.io_rules.specs.State.{ContextState, StrandState, new_strand, strand_at}
use Rattle.io_rules.specs.Strands.{Last, Later, called_on, on_lane, ready_on}
use Rattle.io_rules.proofs.TotalLemmas.{same}
use Rattle.io_handlers.specs.Initiated.{is_offered_kind}
use Rattle.io_strands.specs.declared.ready.ReadyOp.{ReadyOp}
use Rattle.io_strands.specs.Cell.{Cell}
use Rattle.io_jobs.specs.Listed.{JobList}
use Rattle.io_scheduler.specs.declared.counts.Counts.{Counts}
use Rattle.io_scheduler.specs.Called.{gone_for, is_any_gone, lane_left}
use Rattle.io_scheduler.specs.Entered.{entered_cells, entered_jobs}
use Rattle.io_scheduler.specs.Posted.{counts_called, posting, ready_posting}
use Rattle.io_scheduler.specs.Shown.{AreBelow, Shows}
use Rattle.io_scheduler.proofs.BegunLemmas.{below_begun}
use Rattle.io_scheduler.proofs.CalledLemmas.{called_with, left_there, shows_with}
use Rattle.io_scheduler.proofs.PostedLemmas.{posted_op}
use Rattle.io_scheduler.proofs.ReadyLemmas.{at_new, changed_new}

-- what is settled by its call
abbrev pub refused_op : ℕ → Lane → Operation → Marks → Op
refused_op n on kind marks = record {
  number = n;
  lane = on;
  binding = None;
  kind = kind;
  marks = marks;
  phase = phase.Settled code.Bad 0;
}

abbrev pub gone_state : ℕ → ℕ → Lane → Op → ContextState → ContextState
gone_state n by on new s = record s {
  next = s.next + 1;
  promised = s.promised - 1;
  ops = place_given_by (Some by) s.ops ++ new ∷ [];
  settled = s.settled ++ (n ∷ []) ++ [];
  waits = s.waits ++ [];
  strands = on_lane on (called_on Later n) s.strands;
}

gone_as : (given : Gone) (n by : ℕ) (on : Lane) (kind : Operation) (marks : Marks) (s : ContextState) →
    is_any_gone given ≡ true → is_offered_kind kind ≡ true →
    after (event.Called n (Some by) (posting on kind marks) given) s
    ≡ gone_state n by (lane_left on given) (refused_op n (lane_left on given) kind marks) s
gone_as gone.Nothing n by on kind marks s any is = absurd (true≢false (sym any))
gone_as gone.Strand n by on operation.Post marks s any is = refl
gone_as gone.Strand n by on operation.Defer marks s any is = refl
gone_as gone.Strand n by on operation.Dispatch marks s any is = refl
gone_as gone.Strand n by on (operation.Wait timer) marks s any is = refl
gone_as gone.Strand n by on _ marks s any is = absurd (true≢false (sym is))
gone_as gone.Other n by on operation.Post marks s any is = refl
gone_as gone.Other n by on operation.Defer marks s any is = refl
gone_as gone.Other n by on operation.Dispatch marks s any is = refl
gone_as gone.Other n by on (operation.Wait timer) marks s any is = refl
gone_as gone.Other n by on _ marks s any is = absurd (true≢false (sym is))

abbrev done_for : Option Op → ℕ → ContextState → ContextState
done_for o n s =
    served (behind_connect side.Write (kind_of o))
    (served (behind_connect side.Read (kind_of o))
    (served (target_of (kind_of o)) (record s {
      ops = with_phase n (phase.Ready code.Bad 0) s.ops;
      settled = others_than n s.settled;
      waits = filter (λ wait. not (wait.op == n)) s.waits;
      strands = on_lane (lane_of o) (ready_on n) s.strands;
      slots = slots_left n (binding_of o) s.slots;
      streams = streams_left n (target_of (kind_of o)) s.streams;
    })))

abbrev pub left_settled : ℕ → List ℕ → List ℕ
left_settled n settled = others_than n settled ++ [] ++ [] ++ []

abbrev pub left_waits : ℕ → List Wait → List Wait
left_waits n waits = filter (λ wait. not (wait.op == n)) waits

abbrev done_state : ℕ → Lane → ContextState → ContextState
done_state n on s = record s {
  ops = with_phase n (phase.Ready code.Bad 0) s.ops;
  settled = left_settled n s.settled;
  waits = left_waits n s.waits;
  strands = on_lane on (ready_on n) s.strands;
}

done_offered : (n : ℕ) (on : Lane) (kind : Operation) (marks : Marks) (s : ContextState) → is_offered_kind kind ≡ true →
    done_for (Some (refused_op n on kind marks)) n s ≡ done_state n on s
done_offered n on operation.Post marks s is = refl
done_offered n on operation.Defer marks s is = refl
done_offered n on operation.Dispatch marks s is = refl
done_offered n on (operation.Wait timer) marks s is = refl
done_offered n on _ marks s is = absurd (true≢false (sym is))

after_refused : (n : ℕ) (on : Lane) (kind : Operation) (marks : Marks) (s : ContextState) → is_offered_kind kind ≡ true →
    op_at s.ops n ≡ Some (refused_op n on kind marks) → after (event.Done n code.Bad 0) s ≡ done_state n on s
after_refused n on kind marks s is at = ap (λ (o : Option Op). done_for o n s) at ∙ done_offered n on kind marks s is

pub refused_there : (n by : ℕ) (on : Lane) (kind : Operation) (marks : Marks) (s : ContextState) → AreBelow n s.ops →
    op_at (gone_state n by on (refused_op n on kind marks) s).ops n ≡ Some (refused_op n on kind marks)
refused_there n by on kind marks s below =
    at_new (place_given_by (Some by) s.ops) (refused_op n on kind marks)
    (below_begun n by (λ o. place_given o.phase) s.ops below)

-- it completes first: nothing else was settled
pub may_be_refused : (n by : ℕ) (on : Lane) (kind : Operation) (marks : Marks) (given : Gone) (s : ContextState) →
    is_offered_kind kind ≡ true → is_any_gone given ≡ true → s.finishing ≡ false → s.settled ≡ [] → AreBelow n s.ops →
    MayHappen (after (event.Called n (Some by) (posting on kind marks) given) s) (event.Done n code.Bad 0)
may_be_refused n by on kind marks given s is any going none below =
    let new = refused_op n (lane_left on given) kind marks in
    subst (λ t. MayHappen t (event.Done n code.Bad 0)) (sym (gone_as given n by on kind marks s any is))
    (record {
      going = going;
      completes = subst (MayCompleteAs (gone_state n by (lane_left on given) new s) n code.Bad 0)
          (sym (refused_there n by (lane_left on given) kind marks s below))
          (record {
            first = ap (λ xs. slice_get (xs ++ (n ∷ []) ++ []) 0) none;
            same_code = refl;
            same_size = refl;
          });
    })

-- the state behind both events
abbrev pub refused_with : ℕ → ℕ → ContextState → List Op → List StrandState → ContextState
refused_with n by s ops strands = record s {
  next = s.next + 1;
  promised = s.promised - 1;
  ops = ops;
  settled = left_settled n (s.settled ++ (n ∷ []) ++ []);
  waits = left_waits n (s.waits ++ []);
  strands = strands;
}

-- ready on a strand to which it was tied
pub ready_tied : (on : Lane) (n : ℕ) (strands : List StrandState) →
    on_lane on (ready_on n) (on_lane on (called_on Later n) strands) ≡ on_lane on (called_on Last n) strands
ready_tied lane.Own n strands = refl
ready_tied (lane.Strand name) n strands =
    let tied = called_on Later n (strand_at strands name) in
    ⊎_elim
    (λ (lt : name.place < length strands).
    set-set strands name.place tied _
    ∙ ap (λ st. slice_set strands name.place (ready_on n st)) (get_or-set_same strands name.place tied new_strand lt))
    (λ (le : length strands ≤ name.place).
    set-set strands name.place tied _ ∙ set_past strands name.place _ le ∙ sym (set_past strands name.place _ le))
    (cases_lt name.place (length strands))

pub behind_refused : (n by : ℕ) (on : Lane) (kind : Operation) (marks : Marks) (given : Gone) (s : ContextState) →
    is_offered_kind kind ≡ true → is_any_gone given ≡ true → AreBelow n s.ops →
    after (event.Done n code.Bad 0) (after (event.Called n (Some by) (posting on kind marks) given) s)
    ≡ called_with false n by (lane_left on given) (posted_op n (lane_left on given) kind marks code.Bad)
    (left_settled n (s.settled ++ (n ∷ []) ++ [])) (left_waits n (s.waits ++ [])) s s.room
behind_refused n by on kind marks given s is any below =
    let to = lane_left on given in
    let new = refused_op n to kind marks in
    ap (after (event.Done n code.Bad 0)) (gone_as given n by on kind marks s any is)
    ∙ after_refused n to kind marks (gone_state n by to new s) is (refused_there n by to kind marks s below)
    ∙ ap (λ ops. refused_with n by s ops (on_lane to (ready_on n) (on_lane to (called_on Later n) s.strands)))
    (changed_new (λ op. phase.Ready code.Bad 0) (place_given_by (Some by) s.ops) new
    (below_begun n by (λ o. place_given o.phase) s.ops below))
    ∙ ap (refused_with n by s (place_given_by (Some by) s.ops ++ posted_op n to kind marks code.Bad ∷ []))
    (ready_tied to n s.strands)

pub none_settled : (n : ℕ) → left_settled n ([] ++ (n ∷ []) ++ []) ≡ []
none_settled n = ap (λ b. (if not b then n ∷ [] else []) ++ [] ++ [] ++ []) (same n)

-- what is kept behind both
pub shows_refused : {H S : Type 0} (marks : H → Marks) (limits : Limits) (counts : Counts) (names : Names)
    (cells : List (Cell H S)) (jobs : JobList (ReadyOp H)) (s : ContextState) (n by : ℕ) (on : Lane) (kind : Operation)
    (given : Gone) (handler : H) → n ≡ s.next → is_offered_kind kind ≡ true → given ≡ gone_for s.names on kind →
    is_any_gone given ≡ true → Shows marks limits counts names cells jobs s →
    Shows marks limits (counts_called counts) names
    (entered_cells false (lane_left on given) (ready_posting n code.Bad None handler) cells)
    (entered_jobs false (lane_left on given) (ready_posting n code.Bad None handler) cells jobs)
    (after (event.Done n code.Bad 0) (after (event.Called n (Some by) (posting on kind (marks handler)) given) s))
shows_refused marks limits counts names cells jobs s n by on kind given handler is offered gone_is any shows =
    let to = lane_left on given in
    subst
    (Shows marks limits (counts_called counts) names (entered_cells false to (ready_posting n code.Bad None handler) cells)
    (entered_jobs false to (ready_posting n code.Bad None handler) cells jobs))
    (sym (behind_refused n by on kind (marks handler) given s offered any
    (subst (λ k. AreBelow k s.ops) (sym is) shows.below)))
    (shows_with marks limits counts names cells jobs s false n by to kind code.Bad None handler
    (left_settled n (s.settled ++ (n ∷ []) ++ [])) (left_waits n (s.waits ++ [])) is
    (ap (λ xs. left_settled n (xs ++ (n ∷ []) ++ [])) shows.settled ∙ none_settled n)
    (left_there s.names on kind given gone_is any) shows)
