use Rattle.std.proofs.Common.{◌+◌, ◌∙◌, List, subst, sym}
use Rattle.run_lines.specs.declared.line.Line.{Line}
use Rattle.run_forced.specs.declared.known.Known.{Known}
use Rattle.run_forced.specs.declared.sources.Sources.{Sources}
use Rattle.run_forced.specs.declared.turns.Turns.{Turns}
use Rattle.run_forced.specs.Known.{Knows}
use Rattle.run_forced.specs.Sources.{AreSources}
use Rattle.run_forced.specs.Turns.{HaveEnded}
use Rattle.run_forced.proofs.past.Past.step.Goals as goal

pub returns : goal.returns
returns c = λ run here followed before.
    let sources = c.pass.ensures.sources ∙ c.keep.ensures.sources in
    let turns = c.pass.ensures.turns ∙ c.keep.ensures.turns in
    record {
      known =
          subst (λ (k : Known). Knows run (c.args.place + 1) k) (sym c.end_turn.ensures.known)
          (c.in_ok-pass.ensures.known run here (c.in_ok-keep.ensures.known run followed.known before));
      sources =
          c.in_ok-follow.ensures run here
          (subst (λ (s : Sources). AreSources run c.args.place s) (sym (c.end_turn.ensures.sources ∙ sources)) followed.sources);
      ended =
          c.in_ok-gone.ensures.turns run c.args.place here
          (subst (λ (s : Sources). AreSources run c.args.place s) (sym sources) followed.sources)
          (subst (λ (t : Turns). HaveEnded run t) (sym turns) followed.ended);
    }
