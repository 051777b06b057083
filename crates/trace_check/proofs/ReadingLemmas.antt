-- The events of a text, line by line.
use Rattle.std.proofs.Common.{◌≡◌, ℕ, ◌+◌, ◌≤◌, List, [], ◌∷◌, ◌++◌, length, Option, Some, None, refl, sym, ap, ◌∙◌, arith, append_assoc, append-nil, ⊎_elim}
use Rattle.std.proofs.lemmas.Grind.{flat_map-append}
use Rattle.asio_types.specs.declared.event.Event.{Event}
use Rattle.history_book.specs.Trace.{line_end, line_of, trace_of, HasItsNumbers, AreEvents}
use Rattle.trace_check.specs.EventLine.{event_in}
use Rattle.trace_check.specs.Split.{◌>>=◌, split_once}
use Rattle.trace_check.specs.Reading.{most_trace, IsTraceOf, IsBadTrace, BeginsWithEvent, BadLine}
use Rattle.trace_check.proofs.SplitLemmas.{split_first, split_is}
use Rattle.trace_check.proofs.EventLineLemmas.{text_of, line_is, line_lacks_end, event_is, event_back}

-- the event of the first line, and the text behind it
abbrev event_at : List ℕ → Option (Event × List ℕ)
event_at text = split_once 10 text >>= λ parts. event_in parts.0 >>= λ e. Some (e, parts.1)

event_at_line : (e : Event) (tail : List ℕ) → HasItsNumbers e → event_at (line_of e ++ tail) ≡ Some (e, tail)
event_at_line e tail numbers =
    let whole : line_of e ++ tail ≡ text_of e ++ 10 ∷ tail =
    ap (λ line. line ++ tail) (line_is e) ∙ append_assoc (text_of e) line_end tail in
    ap event_at whole
    ∙ ap (λ o. o >>= λ parts. event_in parts.0 >>= λ f. Some (f, parts.1))
    (split_first 10 (text_of e) tail (line_lacks_end e numbers))
    ∙ ap (λ o. o >>= λ f. Some (f, tail)) (event_back e numbers)

-- a text that is cut nowhere, or whose first line is none of an event
pub no_line : (text : List ℕ) → split_once 10 text ≡ None → BeginsWithEvent text → ⊥
no_line text uncut (e, tail, numbers, is) =
    let read : event_at text ≡ Some (e, tail) = ap event_at is ∙ event_at_line e tail numbers in
    let missing : event_at text ≡ None = ap (λ o. o >>= λ parts. event_in parts.0 >>= λ f. Some (f, parts.1)) uncut in
    absurd (cc)

pub no_event : (text line tail : List ℕ) → split_once 10 text ≡ Some (line, tail) → event_in line ≡ None →
    BeginsWithEvent text → ⊥
no_event text line rest cut unread (e, tail, numbers, is) =
    let read : event_at text ≡ Some (e, tail) = ap event_at is ∙ event_at_line e tail numbers in
    let missing : event_at text ≡ None =
    ap (λ o. o >>= λ parts. event_in parts.0 >>= λ f. Some (f, parts.1)) cut
    ∙ ap (λ o. o >>= λ f. Some (f, rest)) unread in
    absurd (cc)

-- what is read of the first line
pub first_line : (text line tail : List ℕ) (e : Event) → split_once 10 text ≡ Some (line, tail) →
    event_in line ≡ Some e → HasItsNumbers e × (text ≡ line_of e ++ tail)
first_line text line tail e cut read =
    let is = event_is line e read in
    (is.0, split_is 10 text (line, tail) cut ∙ sym (append_assoc line line_end tail) ∙ ap (λ l. l ++ tail) is.1)

-- one more event
pub are_events_more : (events : List Event) (e : Event) → AreEvents events → HasItsNumbers e →
    AreEvents (events ++ e ∷ [])
are_events_more [] e all one = (one, tt)
are_events_more (f ∷ events) e all one = (all.0, are_events_more events e all.1 one)

pub trace_more : (events : List Event) (e : Event) (text rest tail : List ℕ) → text ≡ trace_of events ++ rest →
    rest ≡ line_of e ++ tail → text ≡ trace_of (events ++ e ∷ []) ++ tail
trace_more events e text rest tail so_far next =
    so_far
    ∙ ap (λ r. trace_of events ++ r) next
    ∙ sym (append_assoc (trace_of events) (line_of e) tail)
    ∙ ap (λ line. (trace_of events ++ line) ++ tail) (sym (append-nil (line_of e)))
    ∙ ap (λ t. t ++ tail) (sym (flat_map-append line_of events (e ∷ [])))

never_empty : BeginsWithEvent [] → ⊥
never_empty (e, tail, numbers, is) =
    let read : ◌≡◌ {A = Option (Event × List ℕ)} None (Some (e, tail)) =
    ap event_at is ∙ event_at_line e tail numbers in
    absurd (cc)

-- a text has one list of events in front of what begins with none
same_lines : (before other : List Event) (rest left : List ℕ) → AreEvents before → AreEvents other →
    (BeginsWithEvent rest → ⊥) → (BeginsWithEvent left → ⊥) → trace_of before ++ rest ≡ trace_of other ++ left →
    (before ≡ other) × (rest ≡ left)
same_lines [] [] rest left hb ho ends stops same = (refl, same)
same_lines [] (e ∷ other) rest left hb ho ends stops same =
    absurd (ends (e, trace_of other ++ left, ho.0, same ∙ append_assoc (line_of e) (trace_of other) left))
same_lines (e ∷ before) [] rest left hb ho ends stops same =
    absurd (stops (e, trace_of before ++ rest, hb.0, sym same ∙ append_assoc (line_of e) (trace_of before) rest))
same_lines (e ∷ before) (f ∷ other) rest left hb ho ends stops same =
    let text : line_of e ++ (trace_of before ++ rest) ≡ line_of f ++ (trace_of other ++ left) =
    sym (append_assoc (line_of e) (trace_of before) rest) ∙ same ∙ append_assoc (line_of f) (trace_of other) left in
    let read : ◌≡◌ {A = Option (Event × List ℕ)} (Some (e, trace_of before ++ rest)) (Some (f, trace_of other ++ left)) =
    sym (event_at_line e (trace_of before ++ rest) hb.0) ∙ ap event_at text
    ∙ event_at_line f (trace_of other ++ left) ho.0 in
    let pair : ◌≡◌ {A = Event × List ℕ} (e, trace_of before ++ rest) (f, trace_of other ++ left) = cc in
    let behind = same_lines before other rest left hb.1 ho.1 ends stops (ap (λ p. p.1) pair) in
    (ap (λ p. p.0 ∷ before) pair ∙ ap (λ es. f ∷ es) behind.0, behind.1)

-- a trace is bad at no line
pub no_bad_line : (bytes : List ℕ) (line : ℕ) (events : List Event) → IsTraceOf bytes events → BadLine bytes line → ⊥
no_bad_line bytes line events trace bad =
    bad.more (same_lines bad.events events bad.rest [] bad.numbers trace.0 bad.no_event never_empty
    (sym bad.lines_before ∙ trace.1 ∙ sym (append-nil (trace_of events)))).1

-- a text is bad at one line
pub one_bad_line : (bytes : List ℕ) (line other : ℕ) → BadLine bytes line → BadLine bytes other → line ≡ other
one_bad_line bytes line other first second =
    let same : first.events ≡ second.events =
    (same_lines first.events second.events first.rest second.rest first.numbers second.numbers first.no_event
    second.no_event (sym first.lines_before ∙ second.lines_before)).0 in
    first.number_of_line ∙ ap (λ events. length events + 1) same ∙ sym second.number_of_line

pub no_bad_trace : (bytes : List ℕ) (line : ℕ) (events : List Event) → length bytes ≤ most_trace →
    IsTraceOf bytes events → IsBadTrace bytes line → ⊥
no_bad_trace bytes line events few trace bad =
    ⊎_elim (λ long. absurd (omega arith)) (λ late. no_bad_line bytes line events trace late.1) bad

pub named_line : (bytes : List ℕ) (line other : ℕ) → length bytes ≤ most_trace → BadLine bytes line →
    IsBadTrace bytes other → line ≡ other
named_line bytes line other few here bad =
    ⊎_elim (λ long. absurd (omega arith)) (λ late. one_bad_line bytes line other here late.1) bad
