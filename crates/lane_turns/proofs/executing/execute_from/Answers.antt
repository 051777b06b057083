use Rattle.std.proofs.Common.{◌≡◌, ◌≤◌, ◌++◌, ap, subst, sym, ◌∙◌}
use Rattle.std.specs.Prelude.{vec_capacity}
use Rattle.session_script.specs.Script.{ScriptModel}
use Rattle.lane_turns.specs.Pens.{HasDrawnCalls}
use Rattle.lane_turns.specs.Polling.{most_made}
use Rattle.lane_turns.specs.Posting.{PosterView}
use Rattle.lane_turns.proofs.ExecutingLemmas.{posting_begins}
use Rattle.lane_turns.proofs.executing.execute_from.Goals as goal

pub invariant_of-poster : goal.invariant_of-poster
invariant_of-poster g c =
    record {
      script = sym c.requires.names;
      map = c.requires.map;
      posting =
          posting_begins c.args.clock.now _ c.args.script.now c.args.pen c.args.made.items _ c.requires.start
          c.requires.none c.requires.clock c.requires.fits;
      buffer = subst (λ (s : ScriptModel). most_made s ≤ vec_capacity c.args.made) (sym c.requires.names) c.requires.buffer;
    }

pub returns-clause-executed : goal.returns-clause-executed
returns-clause-executed g c =
    let ran = c.in-Whole.ensures.executed in
    let is : c.poster.inside.made.items ≡ ran.calls =
    ap (λ (v : PosterView). v.made) c.poster.view_is ∙ ran.did.made ∙ ap (λ xs. xs ++ ran.calls) c.requires.none in
    record {
      calls = ran.calls;
      whole = ran.whole;
      answered = ran.answered;
      drawn =
          subst (λ calls. HasDrawnCalls c.args.hands.now.script calls g.S.PenStart.start c.poster.inside.pen) is
          (subst (λ (s : ScriptModel). HasDrawnCalls s c.poster.inside.made.items g.S.PenStart.start c.poster.inside.pen)
          (c.poster.invariant.script ∙ c.requires.names ∙ sym c.requires.script) c.poster.invariant.posting.drawn);
      spent = ran.did.spent;
    }
