-- A trace that is read back.
use Rattle.std.proofs.Common.{◌≤◌, ◌<◌, ◌^◌, ℕ, Bool, List, [], ◌∷◌, length, refl, arith, ap, sym, ◌≡◌, ◌∙◌, length-append}
use Rattle.asio_types.specs.declared.event.Event.{Event}
use Rattle.history_book.proofs.ReadingLemmas.{same_events}
use Rattle.history_rules.specs.Legal.{IsLegal}
use Rattle.history_book.specs.Trace.{AreEvents, line_end, line_of, trace_of}
use Rattle.session_script.specs.Script.{ScriptModel}
use Rattle.trace_check.proofs.EventLineLemmas.{line_is, text_of}
use Rattle.trace_check.proofs.ReadingLemmas.{no_bad_trace}
use Rattle.trace_check.specs.ReadBack.{IsFoundLegal}
use Rattle.trace_check.specs.Reading.{IsTraceOf, most_trace}

-- a trace has a byte for each event, or more
lines_count : (events : List Event) → length events ≤ length (trace_of events)
lines_count [] = omega arith
lines_count (event ∷ events) =
    omega (
      arith,
      length-append (line_of event) (trace_of events),
      ap length (line_is event),
      length-append (text_of event) line_end,
      lines_count events,
    )

-- so its events can be counted
pub few_events : (bytes : List ℕ) (events : List Event) → length bytes ≤ most_trace → IsTraceOf bytes events →
    length events < 2 ^ 32
few_events bytes events few trace = omega (arith, few, ap length trace.1, lines_count events)

-- the events of a trace are no others
pub one_trace : (bytes : List ℕ) (first second : List Event) → IsTraceOf bytes first → IsTraceOf bytes second →
    first ≡ second
one_trace bytes first second one other = same_events first second one.0 other.0 (sym one.1 ∙ other.1)

-- the trace of a legal history is read as it and found legal
pub found_legal : (script : ScriptModel) (told : Bool) (events : List Event) → AreEvents events →
    length (trace_of events) ≤ most_trace → IsLegal script told events → IsFoundLegal script told events
found_legal script told events are few legal =
    record {
      read = (are, refl);
      alone = λ others trace. one_trace (trace_of events) others events trace (are, refl);
      good = λ line bad. no_bad_trace (trace_of events) line events few (are, refl) bad;
      verdict = legal;
    }
