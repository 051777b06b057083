use Rattle.std.proofs.Common.{◌≡◌, ◌≤◌, ◌-◌, length}
use Rattle.text_io.proofs.TextLemmas.{IsFilled}
use Rattle.text_io.specs.Turns.{HasGiven}
use Rattle.text_io.proofs.text.fill.Given as goal

abbrev pub invariant-loop-len : goal.invariant-loop-len
invariant-loop-len g l =
    record {
      bound : l.len ≤ length l.fn.buf;
      told : IsFilled (g.S.Source.left l.fn.source) l.len l.buf (g.S.Source.left l.source);
      given : HasGiven g.S.Source.left g.S.Source.faults l.fn.source l.len l.source;
      counted : g.S.Source.faults l.source ≡ g.S.Source.faults l.fn.source;
    }

abbrev pub decreases-loop-len : goal.decreases-loop-len
decreases-loop-len g l = length l.buf - l.len
