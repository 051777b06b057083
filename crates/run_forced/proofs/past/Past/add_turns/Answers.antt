use Rattle.std.proofs.Common.{refl}
use Rattle.run_forced.proofs.PastLemmas.{turn_here}
use Rattle.run_forced.proofs.past.Past.add_turns.Goals as goal

pub returns-in_ok-add_ended-in-Begin-Some : goal.returns-in_ok-add_ended-in-Begin-Some
returns-in_ok-add_ended-in-Begin-Some c = λ run place followed here.
    c.in_ok-add_ended-in-Begin-Some.ensures run place c.in-Begin-Some.strand here.spot followed here.there
    (turn_here run place c.in-Begin-Some.op c.in-Begin-Some.strand c.in-Begin-Some.code-0 c.in-Begin-Some.size-0 c.args.event.now here
    c.in-Begin-Some.is-0 c.in-Begin-Some.is-1)
    (c.of.ensures run followed.ended)
