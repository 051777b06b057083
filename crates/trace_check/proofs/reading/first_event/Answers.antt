use Rattle.std.proofs.Common.{◌≡◌, Some, None, rules}
use Rattle.trace_check.specs.EventLine.{event_in}
use Rattle.trace_check.specs.Split.{split_once}
use Rattle.trace_check.specs.Reading.{BeginsWithEvent}
use Rattle.trace_check.proofs.SplitLemmas.{split_counts}
use Rattle.trace_check.proofs.ReadingLemmas.{no_line, no_event, first_line}
use Rattle.trace_check.proofs.reading.first_event.Goals as goal

pub returns-in_err-line-clause-event : goal.returns-in_err-line-clause-event
returns-in_err-line-clause-event c =
    let uncut : split_once 10 c.args.text.now ≡ None = search rules in
    let never : BeginsWithEvent c.args.text.now → ⊥ = no_line c.args.text.now uncut in
    search rules

pub returns-in_err-event-clause-event : goal.returns-in_err-event-clause-event
returns-in_err-event-clause-event c =
    let cut : split_once 10 c.args.text.now ≡ Some (c.in_ok-line.line.now, c.in_ok-line.rest.now) = search rules in
    let unread : event_in c.in_ok-line.line.now ≡ None = search rules in
    let never : BeginsWithEvent c.args.text.now → ⊥ =
    no_event c.args.text.now c.in_ok-line.line.now c.in_ok-line.rest.now cut unread in
    search rules

pub returns-clause-event : goal.returns-clause-event
returns-clause-event c =
    let cut : split_once 10 c.args.text.now ≡ Some (c.in_ok-line.line.now, c.in_ok-line.rest.now) = search rules in
    let read : event_in c.in_ok-line.line.now ≡ Some c.in_ok-event.event = search rules in
    first_line c.args.text.now c.in_ok-line.line.now c.in_ok-line.rest.now c.in_ok-event.event cut read

pub returns-clause-lines : goal.returns-clause-lines
returns-clause-lines c =
    let cut : split_once 10 c.args.text.now ≡ Some (c.in_ok-line.line.now, c.in_ok-line.rest.now) = search rules in
    split_counts 10 c.args.text.now (c.in_ok-line.line.now, c.in_ok-line.rest.now) cut
