use Rattle.stream_rules.specs.Moving.{moved_count}
use Rattle.stream_rules.specs.Serving.{after_reading}
use Rattle.reactor_trait.specs.Reactor.{with_stream}
use Rattle.proactor_core.proofs.TellsLemmas.{tells-called}
use Rattle.proactor_core.proofs.reading.read_piece.Goals as goal

pub returns-clause-tells : goal.returns-clause-tells
returns-clause-tells g c =
    tells-called c.read_some.result (λ moved. with_stream c.args.stream (after_reading (moved_count moved)))
    (g.X.Reactor.told c.args.reactor.now) (g.X.Reactor.told c.read_some.new.self) c.read_some.ensures.told_gives
    c.read_some.ensures.told_failed
