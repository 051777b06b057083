use Rattle.io_streams.proofs.CallLemmas.{fits, queued, there}
use Rattle.io_streams.proofs.KeptLemmas.{accept_kept, accept_seen, free_place}
use Rattle.io_streams.proofs.streams.Streams.accept.Goals as goal

pub queue_of-requires : goal.queue_of-requires
queue_of-requires g c = fits _ _ c.self.invariant c.args.name (rw (← c.self.view_is) at c.requires.within)

pub push_back-requires-clause-queue : goal.push_back-requires-clause-queue
push_back-requires-clause-queue g c =
    queued _ _ c.self.invariant c.args.name (rw (← c.self.view_is) at c.requires.within) c.args.side c.queue_of.result
    c.queue_of.ensures

pub invariant_of-self : goal.invariant_of-self
invariant_of-self g c =
    rw (c.push_back.ensures.pushed, c.queue_of.ensures)
    (accept_kept _ _ c.self.invariant
    (record {
      place = c.push_back.result;
      item = record {
        op = c.args.op;
        stream = c.args.name;
        side = c.args.side;
        item = c.args.item;
      };
    })
    (there _ _ c.self.invariant c.args.name (rw (← c.self.view_is) at c.requires.within))
    (rw (← c.self.view_is) at c.requires.last) c.push_back.ensures.free)

pub returns-clause-free : goal.returns-clause-free
returns-clause-free g c =
    rw (← c.self.view_is)
    (free_place _ _ c.self.invariant
    (record {
      place = c.push_back.result;
      item = record {
        op = c.args.op;
        stream = c.args.name;
        side = c.args.side;
        item = c.args.item;
      };
    })
    (there _ _ c.self.invariant c.args.name (rw (← c.self.view_is) at c.requires.within))
    (rw (← c.self.view_is) at c.requires.last) c.push_back.ensures.free)

pub returns-clause-accepted : goal.returns-clause-accepted
returns-clause-accepted g c =
    rw (← c.self.view_is, c.push_back.ensures.pushed, c.queue_of.ensures)
    (accept_seen _ _ c.self.invariant
    (record {
      place = c.push_back.result;
      item = record {
        op = c.args.op;
        stream = c.args.name;
        side = c.args.side;
        item = c.args.item;
      };
    })
    (there _ _ c.self.invariant c.args.name (rw (← c.self.view_is) at c.requires.within))
    (rw (← c.self.view_is) at c.requires.last) c.push_back.ensures.free _)
