use Rattle.std.proofs.Common.{refl}
use Rattle.run_names.proofs.NamingLemmas.{first_naming}
use Rattle.run_names.proofs.reading.read_names.Goals as goal

pub loop-init : goal.loop-init
loop-init g c = record {
  naming = λ text tells. first_naming text c.in-Ok.reader.held (g.S.Source.left c.args.source.now) c.new-names.result
      c.in-Ok.ensures.held tells c.new-names.ensures;
  counts = refl;
}
