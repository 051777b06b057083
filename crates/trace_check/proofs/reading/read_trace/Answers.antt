use Rattle.std.proofs.Common.{◌≡◌, ◌+◌, ◌++◌, ℕ, List, [], ◌∷◌, length, ap, subst, sym, ◌∙◌, arith, rules, length-append}
use Rattle.std.proofs.lemmas.Grind.{common_steps}
use Rattle.asio_types.specs.declared.event.Event.{Event}
use Rattle.history_book.specs.Trace.{AreEvents, trace_of}
use Rattle.trace_check.specs.Split.{byte_count}
use Rattle.trace_check.specs.Reading.{BadLine, IsTraceOf}
use Rattle.trace_check.proofs.SplitLemmas.{byte_count-le}
use Rattle.trace_check.proofs.ReadingLemmas.{no_bad_line, no_bad_trace, named_line, are_events_more, trace_more}
use Rattle.trace_check.proofs.reading.read_trace.Goals as goal

pub loop-rest-init : goal.loop-rest-init
loop-rest-init c =
    let bytes = c.args.bytes.now in
    let empty : c.in_ok-history.history.events ≡ [] = ap (λ h. h.events) c.in_ok-history.ensures in
    let room : c.in_ok-history.history.spare ≡ byte_count 10 bytes =
    ap (λ h. h.spare) c.in_ok-history.ensures ∙ c.line_count.ensures in
    record {
      lines_before = ap (λ events. trace_of events ++ bytes) (sym empty);
      numbers = subst AreEvents (sym empty) tt;
      number_of_line = omega (arith, ap length empty);
      room = room;
      few = omega (arith, byte_count-le 10 bytes);
    }

bad_here : (c : goal.After-drop-history-inside) → BadLine c.args.bytes.now c.loop-rest.line
bad_here c = search rules

pub returns-in_default-clause-accepted : goal.returns-in_default-clause-accepted
returns-in_default-clause-accepted c events few trace =
    absurd (no_bad_line c.args.bytes.now c.loop-rest.line events trace (bad_here c))

pub returns-in_default-clause-bad : goal.returns-in_default-clause-bad
returns-in_default-clause-bad c line bad =
    named_line c.args.bytes.now c.loop-rest.line line (omega arith) (bad_here c) bad

pub returns-clause-bad : goal.returns-clause-bad
returns-clause-bad c line bad =
    let whole : c.args.bytes.now ≡ trace_of c.loop-rest.history.events = grind (arith, common_steps) in
    let trace : IsTraceOf c.args.bytes.now c.loop-rest.history.events = (c.loop-rest.invariant.numbers, whole) in
    no_bad_trace c.args.bytes.now line c.loop-rest.history.events (omega arith) trace bad

pub loop-rest-preserved : goal.loop-rest-preserved
loop-rest-preserved c =
    let before : List Event = c.loop-rest.history.events in
    let tail : List ℕ = c.in-Some.behind.now in
    let longer : c.push_reserved.new.self.events ≡ before ++ c.in-Some.event ∷ [] = c.push_reserved.ensures.events in
    let lines : byte_count 10 c.loop-rest.rest.now ≡ byte_count 10 tail + 1 = c.in-Some.ensures.lines in
    record {
      lines_before =
          trace_more before c.in-Some.event c.args.bytes.now c.loop-rest.rest.now tail
          c.loop-rest.invariant.lines_before c.in-Some.ensures.event.1
          ∙ ap (λ events. trace_of events ++ tail) (sym longer);
      numbers =
          subst AreEvents (sym longer)
          (are_events_more before c.in-Some.event c.loop-rest.invariant.numbers c.in-Some.ensures.event.0);
      number_of_line =
          omega (arith, c.loop-rest.invariant.number_of_line, ap length longer, length-append before (c.in-Some.event ∷ []));
      room = omega (arith, lines, c.push_reserved.ensures.spare, c.loop-rest.invariant.room);
      few = omega (arith, lines, c.loop-rest.invariant.few);
    }
