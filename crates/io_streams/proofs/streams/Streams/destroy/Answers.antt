use Rattle.std.proofs.Common.{ap, ◌∙◌}
use Rattle.io_streams.specs.Pending.{StreamList}
use Rattle.io_streams.proofs.KeptLemmas.{empty_queues}
use Rattle.io_streams.proofs.streams.Streams.destroy.Goals as goal

pub destroy-requires : goal.destroy-requires
destroy-requires g c = empty_queues _ (ap (λ (s : StreamList _). s.ops) c.self.view_is ∙ c.requires)
