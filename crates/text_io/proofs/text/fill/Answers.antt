use Rattle.std.proofs.Common.{◌≡◌, arith, inl, inr, length, refl, ◌∙◌}
use Rattle.text_io.proofs.TextLemmas.{at_end, filled_more, filled_none, full}
use Rattle.text_io.proofs.NoteLemmas.{on_any}
use Rattle.text_io.specs.Turns.{none_given, some_given}
use Rattle.text_io.proofs.text.fill.Goals as goal

pub loop-len-preserved : goal.loop-len-preserved
loop-len-preserved g c =
    record {
      bound = omega (arith, c.in_ok-n.ensures.bound);
      told =
          filled_more (g.S.Source.left c.args.source.now) c.loop-len.len c.in_ok-n.n c.loop-len.buf c.read.new.buf
          (g.S.Source.left c.loop-len.source) (g.S.Source.left c.read.new.self) c.loop-len.invariant.told
          c.in_ok-n.ensures.next c.in_ok-n.ensures.rest (omega arith) (omega arith)
          (omega (arith, c.in_ok-n.ensures.bound));
      given =
          some_given c.loop-len.invariant.given (omega arith)
          record { lost = c.in_ok-n.ensures.rest; stood = c.in_ok-n.ensures.counts };
      counted = c.in_ok-n.ensures.counts ∙ c.loop-len.invariant.counted;
    }

pub returns-after-loop-len-clause-text : goal.returns-after-loop-len-clause-text
returns-after-loop-len-clause-text g c =
    full (length c.args.buf.now) (g.S.Source.left c.args.source.now) c.loop-len.len c.loop-len.buf
    (g.S.Source.left c.loop-len.source) (omega arith) c.loop-len.invariant.told

pub returns-then-n-eq0-clause-text : goal.returns-then-n-eq0-clause-text
returns-then-n-eq0-clause-text g c =
    at_end (length c.args.buf.now) (g.S.Source.left c.args.source.now) c.loop-len.len c.loop-len.buf c.read.new.buf
    (g.S.Source.left c.loop-len.source) (g.S.Source.left c.read.new.self) c.loop-len.invariant.told
    (rw c.if-n-eq0.true at c.in_ok-n.ensures.next) (rw c.if-n-eq0.true at c.in_ok-n.ensures.rest) (omega arith)
    c.loop-len.invariant.bound

pub loop-len-init : goal.loop-len-init
loop-len-init g c =
    record {
      bound = omega arith;
      told = filled_none (g.S.Source.left c.args.source.now) c.args.buf.now;
      given = none_given;
      counted = refl;
    }

pub returns-after-loop-len-clause-turns : goal.returns-after-loop-len-clause-turns
returns-after-loop-len-clause-turns g c =
    let all : c.loop-len.len ≡ length c.args.buf.now = omega (arith, c.loop-len.invariant.bound) in
    record { before = c.loop-len.source; given = c.loop-len.invariant.given; ended = inl (all, refl) }

pub returns-then-n-eq0-clause-turns : goal.returns-then-n-eq0-clause-turns
returns-then-n-eq0-clause-turns g c =
    record {
      before = c.loop-len.source;
      given = c.loop-len.invariant.given;
      ended =
          inr (
            omega arith,
            record {
              lost = rw c.if-n-eq0.true at c.in_ok-n.ensures.rest;
              stood = c.in_ok-n.ensures.counts;
            },
          );
    }

pub returns-in_err-n-clause-failed : goal.returns-in_err-n-clause-failed
returns-in_err-n-clause-failed g c =
    on_any c.from_residual.result
    record {
      before = c.loop-len.source;
      all = c.loop-len.len;
      given = c.loop-len.invariant.given;
      some_wanted = omega arith;
      rose = c.in_err-n.ensures.counts;
      kept = c.in_err-n.ensures.unchanged;
    }
