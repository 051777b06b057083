use Rattle.std.proofs.Common.{◌≡◌, ◌∙◌, ap, arith, length, List, rules, sym, subst}
use Rattle.history_rules.specs.FromOutside.{has_outside_stop}
use Rattle.book_context.specs.Book.{BookView}
use Rattle.book_context.specs.BookSteps.{IsBookOver}
use Rattle.book_context.specs.Finish.{GoesOnByDrops}
use Rattle.execution_laws.specs.LetGo.{let_go_marks}
use Rattle.session_script.specs.Script.{ScriptModel}
use Rattle.book_context.proofs.FinishLemmas.{all_let_go, no_stop}
use Rattle.book_context.proofs.FinishOverLemmas.{begin_ending, over_legal, rose_at_end, sent_at_end, stood_at_end}
use Rattle.book_context.proofs.book.Book.finish_telling.Goals as goal

pub discard_unspent-left-requires : goal.discard_unspent-left-requires
discard_unspent-left-requires g c = record {
  ending =
      begin_ending c.self.invariant.history c.self.invariant.reactor c.drops_are_recorded.ensures.begins c.self.invariant.holds
      (subst (λ (v : BookView g.row.X.Denot). IsBookOver g.N.Session.script v.recording) (sym c.self.view_is) c.requires.over);
}

pub returns-clause-ended : goal.returns-clause-ended
returns-clause-ended g c =
    let discarded = c.discard_unspent-left.ensures in
    let history = c.self.invariant.history in
    let left = c.discard_unspent-left.new.recording in
    let events = c.into_history.result.events in
    let same : events ≡ left.events = ap (λ h. h.events) c.into_history.ensures in
    record {
      legal =
          over_legal c.drops_are_recorded.ensures.ends g.N.Session.script g.N.Session.told discarded.ending.last left events
          (rw (← history.is_script) discarded.ending.dropping) (discarded.script ∙ history.is_script) same;
      marked = search rules;
      unstopped = λ none. no_stop events (ap (λ h. has_outside_stop h.events) c.into_history.ensures ∙ discarded.ending.unstopped none);
      faults = search rules;
      rose =
          rose_at_end history c.self.invariant.reactor left events same discarded.faults c.into_reactor.result
          c.into_reactor.ensures.reactor;
      stood =
          stood_at_end history c.self.invariant.reactor left events same discarded.faults c.into_reactor.result
          c.into_reactor.ensures.reactor;
      set_up = search rules;
      up = search rules;
      now = search rules;
      still_told = search rules;
      sent =
          sent_at_end history c.self.invariant.reactor left events same discarded.faults c.into_reactor.result
          c.into_reactor.ensures.stands (discarded.script ∙ history.is_script) discarded.half;
    }

pub returns-clause-begins : goal.returns-clause-begins
returns-clause-begins g c =
    subst (λ events. GoesOnByDrops c.args.self.recording.events events)
    (sym (ap (λ h. h.events) c.into_history.ensures))
    (subst (λ (v : BookView g.row.X.Denot). GoesOnByDrops v.recording.events c.discard_unspent-left.new.recording.events)
    c.self.view_is c.discard_unspent-left.ensures.goes_on)

pub returns-clause-let_go : goal.returns-clause-let_go
returns-clause-let_go g c =
    let discarded = c.discard_unspent-left.ensures in
    let history = c.self.invariant.history in
    let left = c.discard_unspent-left.new.recording in
    let N = g.N.Session in
    let same : c.into_history.result.events ≡ left.events = ap (λ h. h.events) c.into_history.ensures in
    let size = ap (λ (s : ScriptModel). length s.acts) discarded.ending.dropping.script in
    let kept = ap (λ (s : ScriptModel). length s.acts) discarded.script in
    c.discard_all-let_go.ensures.marks
    ∙ (all_let_go _ discarded.ending (omega (arith, size, kept))
    ∙ (ap (λ (s : ScriptModel). let_go_marks s N.told N.drop left.events) (discarded.script ∙ history.is_script)
    ∙ ap (λ (events : List _). let_go_marks N.script N.told N.drop events) (sym same)))
