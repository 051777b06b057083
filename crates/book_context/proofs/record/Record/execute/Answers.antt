use Rattle.std.proofs.Common.{◌≡◌, ◌≤◌, List, length, sym, ap, subst, ◌∙◌, arith, vec_capacity}
use Rattle.session_script.specs.Script.{ScriptModel}
use Rattle.strand_core.specs.Execution.{AnyMark, IsWholeExecution, events_of}
use Rattle.strand_core.specs.Hands.{HasRunMark}
use Rattle.strand_core.specs.declared.posted.Posted.{Posted}
use Rattle.history_book.specs.History.{Recorded}
use Rattle.book_context.specs.Listed.{Listed}
use Rattle.book_context.specs.Posts.{HasPosted}
use Rattle.book_context.specs.Recording.{ArePlaced, HasRoomForCalls, Recording, with_calls}
use Rattle.book_context.proofs.RecordLemmas.{any_mark, calls_made, recording_of}
use Rattle.book_context.proofs.record.Record.execute.Goals as goal
use Rattle.book_context.proofs.record.Record.execute.Given.{Over}
use Rattle.book_context.proofs.record.Record.execute.Goals.{After-as_slice}

-- there is room for the calls that were posted
has_room : (g : Over) (c : After-as_slice g) →
    HasRoomForCalls
    (recording_of c.self.inside.script.now c.self.inside.history c.self.inside.lists c.self.inside.stopped
    c.self.inside.restarted c.self.inside.closings) c.as_slice.result.now
has_room g c =
    let calls : List Posted = c.post_execution.result.items in
    let room : HasRoomForCalls c.args.self.now calls =
    c.requires.room calls
    (subst (λ (s : ScriptModel). IsWholeExecution s AnyMark c.args.op c.args.code c.args.size calls)
    (ap (λ (r : Recording). r.script) c.self.view_is) (any_mark c.post_execution.ensures.posted.whole)) in
    subst
    (λ calls.
    HasRoomForCalls
    (recording_of c.self.inside.script.now c.self.inside.history c.self.inside.lists c.self.inside.stopped
    c.self.inside.restarted c.self.inside.closings) calls) (sym c.as_slice.ensures.value)
    (subst (λ (r : Recording). HasRoomForCalls r calls) (sym c.self.view_is) room)

pub post_execution-requires-clause-room : goal.post_execution-requires-clause-room
post_execution-requires-clause-room g c more whole =
    let most =
    c.executions_are_bounded.ensures.executions c.self.inside.script.now c.args.op c.args.code c.args.size more
    c.scripts_are_well_formed.ensures whole in
    let fits : length (events_of c.self.inside.script.now more) ≤ vec_capacity c.replace-calls.result =
    omega (
      arith,
      most,
      c.self.invariant.calls,
      c.clear.ensures.capacity,
      ap vec_capacity c.replace-calls.ensures.value,
    ) in
    fits

pub record_calls-requires-clause-spare : goal.record_calls-requires-clause-spare
record_calls-requires-clause-spare g c =
    (has_room g (goal.at.record_calls-requires-clause-spare g c).After-as_slice).events

pub record_calls-requires-clause-ready : goal.record_calls-requires-clause-ready
record_calls-requires-clause-ready g c =
    omega (arith, (has_room g (goal.at.record_calls-requires-clause-ready g c).After-as_slice).ready, c.self.invariant.room)

pub record_calls-requires-clause-requests : goal.record_calls-requires-clause-requests
record_calls-requires-clause-requests g c =
    omega (arith, (has_room g (goal.at.record_calls-requires-clause-requests g c).After-as_slice).requests, c.self.invariant.room)

pub invariant_of-self : goal.invariant_of-self
invariant_of-self g c =
    record {
      room = ap (λ (l : Listed). l.room) c.record_calls.ensures.lists ∙ c.self.invariant.room;
      calls =
          omega (
            arith,
            c.post_execution.ensures.room,
            c.clear.ensures.capacity,
            ap vec_capacity c.replace-calls.ensures.value,
            c.self.invariant.calls,
          );
      few = omega (arith, c.self.invariant.few, ap (λ (h : Recorded). h.spare) c.record_calls.ensures.history);
    }

pub returns : goal.returns
returns g c =
    let posted = c.post_execution.ensures.posted in
    let script : c.self.inside.script.now ≡ c.args.self.now.script = ap (λ (r : Recording). r.script) c.self.view_is in
    record {
      calls = c.post_execution.result.items;
      whole =
          subst
          (λ (s : ScriptModel).
          IsWholeExecution s (HasRunMark g.H.CompletionHandler.marks c.args.hands.now) c.args.op c.args.code
          c.args.size c.post_execution.result.items) script posted.whole;
      placed =
          subst (λ (r : Recording). ArePlaced r.script (length r.events) c.post_execution.result.items) c.self.view_is
          (subst (λ n. ArePlaced c.self.inside.script.now n c.post_execution.result.items)
          (ap length c.events.ensures) posted.placed);
      script = posted.script_is;
      spent = posted.spent;
      is =
          calls_made c.self.inside.script.now c.as_slice.result.now c.self.inside.history c.record_calls.new.history
          c.self.inside.lists c.record_calls.new.lists c.self.inside.stopped c.record_calls.result
          c.self.inside.restarted c.self.inside.closings
          c.record_calls.ensures.history c.record_calls.ensures.lists c.record_calls.ensures.stops
          ∙ ap (with_calls c.as_slice.result.now) c.self.view_is
          ∙ ap (λ xs. with_calls xs c.args.self.now) c.as_slice.ensures.value;
    }
