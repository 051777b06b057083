use Rattle.std.proofs.Common.{sym}
use Rattle.run_verdict.specs.declared.uses.Uses.{Uses}
use Rattle.run_verdict.specs.Uses.{stream_at, user_at}
use Rattle.run_verdict.proofs.PairLemmas.{take_finds}
use Rattle.run_verdict.proofs.uses.Uses.take_out.Goals as goal

pub returns-in-Some-clause-paired : goal.returns-in-Some-clause-paired
returns-in-Some-clause-paired c = λ paired.
    let kept : Uses = record { streams = c.remove.new.self; users = c.remove-in-Some.new.self } in
    record {
      found = take_finds (stream_at c.args.self.now) (stream_at kept) (user_at c.args.self.now) (user_at kept) c.args.op
          c.in-Some.stream
          paired.found (sym c.in-Some.ensures.value) c.in-Some.ensures.updates.0 c.remove-in-Some.ensures.updates.0;
      stands = λ op stream is. take_finds (user_at c.args.self.now) (user_at kept) (stream_at c.args.self.now) (stream_at kept)
          c.in-Some.stream c.args.op
          (λ x y. paired.stands y x) (paired.found c.args.op c.in-Some.stream (sym c.in-Some.ensures.value))
          c.remove-in-Some.ensures.updates.0 c.in-Some.ensures.updates.0 stream op is;
    }
