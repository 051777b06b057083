use Rattle.run_verdict.specs.declared.uses.Uses.{Uses}
use Rattle.run_verdict.specs.Uses.{stream_at, user_at}
use Rattle.run_verdict.proofs.PairLemmas.{put_finds}
use Rattle.run_verdict.proofs.uses.Uses.put.Goals as goal

pub returns-clause-paired : goal.returns-clause-paired
returns-clause-paired c = λ paired absent unused.
    let kept : Uses = record { streams = c.insert.new.self; users = c.insert-2.new.self } in
    record {
      found = put_finds (stream_at c.args.self.now) (stream_at kept) (user_at c.args.self.now) (user_at kept) c.args.op
          c.args.stream
          paired.found unused c.in_ok-insert.ensures.updates.0 c.in_ok-insert-2.ensures.updates.0;
      stands = λ op stream is. put_finds (user_at c.args.self.now) (user_at kept) (stream_at c.args.self.now) (stream_at kept)
          c.args.stream c.args.op
          (λ x y. paired.stands y x) absent c.in_ok-insert-2.ensures.updates.0 c.in_ok-insert.ensures.updates.0 stream op is;
    }
