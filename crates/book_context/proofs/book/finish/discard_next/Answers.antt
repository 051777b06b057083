use Rattle.std.proofs.Common.{◌≡◌, ◌+◌, ◌∙◌, true, false, inl, inr, ap, sym, subst}
use Rattle.std.specs.List.{slice_index_or}
use Rattle.session_script.specs.Lanes.{is_inline}
use Rattle.session_script.specs.Script.{ScriptModel, is_op}
use Rattle.book_context.specs.InTurn.{KeepsFaults}
use Rattle.book_context.specs.Recorded.{recorded_half}
use Rattle.book_context.specs.Recording.{Recording}
use Rattle.book_context.specs.Finish.{GoesOnByDrops, IsEnding}
use Rattle.book_context.proofs.FinishLemmas.{by_none, by_one, drop_faults, drop_half, drop_next, dropped, none_else, pass_other, pass_spent}
use Rattle.book_context.proofs.book.finish.discard_next.Given as given
use Rattle.book_context.proofs.book.finish.discard_next.Goals as goal
use Rattle.book_context.proofs.book.finish.discard_next.Goals.{After-discard-rest}
use Rattle.book_context.proofs.book.finish.discard_next.Goals.{then-not-is_op-via-then-not-is_op}
use Rattle.book_context.proofs.book.finish.discard_next.Goals.{then-not-is_op-via-else-not-is_op+then-is_inline}
use Rattle.book_context.proofs.book.finish.discard_next.Goals.{then-not-is_op-via-else-not-is_op+else-is_inline+then-not-was_called}

pub returns-then-not-is_op-clause-ending : goal.returns-then-not-is_op-clause-ending
returns-then-not-is_op-clause-ending g c =
    let law = c.drops_are_recorded.ensures in
    pass_other c.requires.ending law.unspent law.passes law.inline
    (elim c.then-not-is_op.branch [
      | then-not-is_op-via-then-not-is_op w ↦
          let is : is_op c.script-script.result.now c.args.op ≡ false = cc (w.if-not-is_op.true, c.is_op.ensures) in
          inl (subst (λ (script : ScriptModel). is_op script c.args.op ≡ false) c.script-script.ensures is)
      | then-not-is_op-via-else-not-is_op+then-is_inline w ↦
          let is : is_inline c.script-script.result.now c.args.op ≡ true =
          cc (w.if-is_inline.true, w.is_inline.ensures) in
          inr (inl (subst (λ (script : ScriptModel). is_inline script c.args.op ≡ true) c.script-script.ensures is))
      | then-not-is_op-via-else-not-is_op+else-is_inline+then-not-was_called w ↦
          let is : slice_index_or c.args.recording.now.called c.args.op false ≡ false =
          cc (w.if-not-was_called.true, w.was_called.ensures) in
          inr (inr is)
    ])

-- it was called
called : (g : given.Over) (c : After-discard-rest g) → slice_index_or c.args.recording.now.called c.args.op false ≡ true
called g c = cc (c.if-not-was_called.false, c.was_called.ensures)

pub push-requires : goal.push-requires
push-requires g c =
    let at = (goal.at.push-requires g c).After-discard-rest in
    let law = c.drops_are_recorded.ensures in
    let discarded = c.discard-rest.ensures in
    (dropped c.requires.ending law.unspent c.discard-rest.result.0 discarded.script discarded.after law.drops (called g at)
    c.in-Some.mark (sym discarded.mark ∙ c.in-Some.is)).room

pub returns-in-Some-clause-ending : goal.returns-in-Some-clause-ending
returns-in-Some-clause-ending g c =
    let at = (goal.at.returns-in-Some-clause-ending g c).After-discard-rest in
    let law = c.drops_are_recorded.ensures in
    let discarded = c.discard-rest.ensures in
    let marks = g.H.CompletionHandler.marks in
    let N = g.N.Session in
    subst (λ r. IsEnding marks N.told N.run N.drop g.N.Session.outside (c.args.op + 1) r c.discard-rest.result.0)
    (sym c.push.ensures)
    (drop_next c.requires.ending law.unspent c.discard-rest.result.0 discarded.script discarded.after law.drops (called g at)
    c.in-Some.mark (sym discarded.mark ∙ c.in-Some.is))

pub returns-in-Some-clause-half : goal.returns-in-Some-clause-half
returns-in-Some-clause-half g c =
    let at = (goal.at.returns-in-Some-clause-half g c).After-discard-rest in
    let law = c.drops_are_recorded.ensures in
    let discarded = c.discard-rest.ensures in
    ap (recorded_half g.N.Session.told) c.push.ensures
    ∙ drop_half c.requires.ending law.unspent c.discard-rest.result.0 discarded.script discarded.after law.drops (called g at)
    c.in-Some.mark (sym discarded.mark ∙ c.in-Some.is)

pub returns-in-Some-clause-faults : goal.returns-in-Some-clause-faults
returns-in-Some-clause-faults g c =
    let at = (goal.at.returns-in-Some-clause-faults g c).After-discard-rest in
    let law = c.drops_are_recorded.ensures in
    let discarded = c.discard-rest.ensures in
    subst (KeepsFaults c.args.recording.now) (sym c.push.ensures)
    (drop_faults c.requires.ending law.unspent c.discard-rest.result.0 discarded.script discarded.after law.drops (called g at)
    c.in-Some.mark (sym discarded.mark ∙ c.in-Some.is))

pub returns-in_default-clause-ending : goal.returns-in_default-clause-ending
returns-in_default-clause-ending g c =
    let law = c.drops_are_recorded.ensures in
    let discarded = c.discard-rest.ensures in
    pass_spent c.requires.ending law.unspent c.discard-rest.result.0 discarded.script discarded.after law.passes
    (sym discarded.mark ∙ none_else c.discard-rest.result.1 c.in_default.not-Some)

pub returns-then-not-is_op-clause-goes_on : goal.returns-then-not-is_op-clause-goes_on
returns-then-not-is_op-clause-goes_on g c = by_none c.args.recording.now.events

pub returns-in-Some-clause-goes_on : goal.returns-in-Some-clause-goes_on
returns-in-Some-clause-goes_on g c =
    subst (λ (r : Recording). GoesOnByDrops c.args.recording.now.events r.events) (sym c.push.ensures)
    (by_one c.args.op c.in-Some.mark c.args.recording.now.events)

pub returns-in_default-clause-goes_on : goal.returns-in_default-clause-goes_on
returns-in_default-clause-goes_on g c = by_none c.args.recording.now.events
