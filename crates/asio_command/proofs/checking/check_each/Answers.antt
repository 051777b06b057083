use Rattle.std.specs.Prelude.{not}
use Rattle.asio_command.proofs.StatusLemmas.{statuses_step}
use Rattle.asio_command.proofs.checking.check_each.Goals as goal

pub loop-file-preserved : goal.loop-file-preserved
loop-file-preserved c =
    statuses_step (not c.args.options.net) c.args.files.now c.loop-file.file-index _ c.loop-file.statuses.items
    c.push.new.self.items c.in_ok-status.status c.loop-file-test.true c.loop-file.invariant c.in_ok-status.ensures
    c.in_ok-push.ensures.items
