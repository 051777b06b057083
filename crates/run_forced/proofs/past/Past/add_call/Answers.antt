use Rattle.std.proofs.Common.{sym}
use Rattle.run_forced.proofs.PastLemmas.{call_forced}
use Rattle.run_forced.proofs.past.Past.add_call.Goals as goal

pub returns : goal.returns
returns c = λ run place followed here.
    c.in_ok-add.ensures run place place followed.known
    (call_forced run place c.in-Some.op c.args.event.now c.args.self.now c.in-Some-call.called followed here (sym c.in-Some.ensures)
    (sym c.in-Some-call.ensures))
