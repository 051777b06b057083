use Rattle.std.proofs.Common.{◌≡◌, ◌++◌, List, length, ap, subst, ◌∙◌, arith}
use Rattle.session_script.specs.Script.{ScriptModel, opening_of}
use Rattle.strand_core.specs.Execution.{AnyMark, AreCalls}
use Rattle.strand_core.specs.declared.posted.Posted.{Posted}
use Rattle.execution_laws.proofs.ScriptLemmas.{few_in}
use Rattle.book_context.specs.Recording.{Recording, outside_calls, with_calls}
use Rattle.book_context.proofs.RecordLemmas.{calls_made, opening_calls, opening_ready, opening_requests, opening_spare}
use Rattle.std.specs.Prelude.{None}
use Rattle.book_context.proofs.record.Record.open.Goals as goal
use Rattle.book_context.proofs.record.Record.open.Goals.{After-as_slice}

-- the calls that were posted
posted_calls : (c : After-as_slice) → c.as_slice.result.now ≡ outside_calls (opening_of c.self.inside.script.now)
posted_calls c =
    c.as_slice.ensures.value ∙ c.call_each.ensures.calls
    ∙ ap (λ xs. xs ++ outside_calls c.opening.result.now) c.clear.ensures.items ∙ ap outside_calls c.opening.ensures

pub call_each-requires : goal.call_each-requires
call_each-requires c =
    omega (
      arith,
      ap length c.clear.ensures.items,
      c.clear.ensures.capacity,
      c.self.invariant.calls,
      ap length c.opening.ensures,
      few_in None 0 c.self.inside.script.now.acts,
    )

pub record_calls-requires-clause-spare : goal.record_calls-requires-clause-spare
record_calls-requires-clause-spare c =
    opening_spare c.self.inside.script.now c.scripts_are_well_formed.ensures c.executions_are_bounded.ensures.openings
    c.as_slice.result.now (posted_calls (goal.at.record_calls-requires-clause-spare c).After-as_slice)
    c.self.inside.history.spare (rw (← c.self.view_is) at c.requires.room)

pub record_calls-requires-clause-ready : goal.record_calls-requires-clause-ready
record_calls-requires-clause-ready c =
    opening_ready c.self.inside.script.now c.scripts_are_well_formed.ensures c.executions_are_bounded.ensures.openings
    c.as_slice.result.now (posted_calls (goal.at.record_calls-requires-clause-ready c).After-as_slice)
    c.self.inside.lists c.requires.new (ap (λ (r : Recording). r.ready) c.self.view_is) c.self.invariant.room

pub record_calls-requires-clause-requests : goal.record_calls-requires-clause-requests
record_calls-requires-clause-requests c =
    opening_requests c.self.inside.script.now c.scripts_are_well_formed.ensures
    c.executions_are_bounded.ensures.openings c.as_slice.result.now
    (posted_calls (goal.at.record_calls-requires-clause-requests c).After-as_slice) c.self.inside.lists c.requires.new
    (ap (λ (r : Recording). r.requests) c.self.view_is) c.self.invariant.room

pub returns : goal.returns
returns c =
    let script : ScriptModel = c.self.inside.script.now in
    let calls : List Posted = c.as_slice.result.now in
    let are : AreCalls c.self.inside.script.now AnyMark (opening_of c.self.inside.script.now) c.as_slice.result.now =
    opening_calls c.self.inside.script.now c.scripts_are_well_formed.ensures c.executions_are_bounded.ensures.openings
    c.as_slice.result.now (posted_calls (goal.at.returns c).After-as_slice) in
    record {
      calls = c.as_slice.result.now;
      are =
          subst (λ (s : ScriptModel). AreCalls s AnyMark (opening_of s) c.as_slice.result.now)
          (ap (λ (r : Recording). r.script) c.self.view_is) are;
      is =
          calls_made c.self.inside.script.now c.as_slice.result.now c.self.inside.history c.record_calls.new.history
          c.self.inside.lists c.record_calls.new.lists c.self.inside.stopped c.record_calls.result
          c.self.inside.restarted c.self.inside.closings
          c.record_calls.ensures.history c.record_calls.ensures.lists c.record_calls.ensures.stops
          ∙ ap (with_calls c.as_slice.result.now) c.self.view_is;
    }
