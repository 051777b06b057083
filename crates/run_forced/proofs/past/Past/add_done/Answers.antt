use Rattle.std.proofs.Common.{sym}
use Rattle.run_forced.proofs.PastLemmas.{done_forced}
use Rattle.run_forced.proofs.past.Past.add_done.Goals as goal

pub returns : goal.returns
returns c = λ run place followed here.
    c.in_ok-add.ensures run place place followed.known
    (done_forced run place c.in-Some.op c.in-Some-done.place c.args.event.now c.args.self.now followed here (sym c.in-Some.ensures)
    (sym c.in-Some-done.ensures))
