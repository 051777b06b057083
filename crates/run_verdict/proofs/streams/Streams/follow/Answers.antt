use Rattle.run_verdict.specs.declared.uses.Way.TheVariants as way
use Rattle.run_verdict.proofs.StreamLemmas.{uses_next}
use Rattle.run_verdict.proofs.streams.Streams.follow.Goals as goal

pub returns : goal.returns
returns c = λ level past thread on legal may streams. record {
  reads = uses_next way.Read level past thread c.args.does.now c.args.self.now.reads c.follow.new.self on legal may streams.reads
      c.in_ok-follow.ensures.streams c.in_ok-follow.ensures.paired;
  writes = uses_next way.Write level past thread c.args.does.now c.args.self.now.writes c.follow-2.new.self on legal may
      streams.writes
      c.in_ok-follow-2.ensures.streams c.in_ok-follow-2.ensures.paired;
}
