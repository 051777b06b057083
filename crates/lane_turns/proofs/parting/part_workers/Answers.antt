use Rattle.std.proofs.Common.{◌∷◌, ◌++◌, [], ap, refl, subst, sym, ◌∙◌}
use Rattle.std.specs.Vec.Iter.{into_iter_items}
use Rattle.std.proofs.lemmas.List.{append-nil}
use Rattle.lane_turns.specs.Workers.{IsWorker, WorkerView}
use Rattle.lane_turns.proofs.PartingLemmas.{going_more, going_none, made_more}
use Rattle.lane_turns.proofs.parting.part_workers.Goals as goal

pub loop-worker-init : goal.loop-worker-init
loop-worker-init g c =
    record {
      front = [];
      going =
          going_none (λ worker. IsWorker g.N.LaneSession.names.script g.N.LaneSession.clock worker) c.args.workers.items
          (into_iter_items c.into_iter-rest.result) c.into_iter-rest.ensures.rest;
      made = sym (append-nil c.args.pens.items);
      capacity = refl;
    }

pub loop-worker-preserved : goal.loop-worker-preserved
loop-worker-preserved g c =
    let before = c.loop-worker.invariant in
    record {
      front = before.front ++ c.in-Some.worker ∷ [];
      going =
          going_more (λ worker. IsWorker g.N.LaneSession.names.script g.N.LaneSession.clock worker) c.args.workers.items
          (into_iter_items c.loop-worker.rest) (into_iter_items c.next.new.self) before.front c.in-Some.worker
          c.in-Some.ensures.items
          (subst (λ (worker : WorkerView). IsWorker g.N.LaneSession.names.script g.N.LaneSession.clock worker)
          c.worker.view_is c.worker.invariant)
          before.going;
      made =
          made_more (λ (worker : WorkerView). worker.pen) c.args.pens.items c.loop-worker.all.items
          c.push_reserved.new.self.items before.front c.in-Some.worker before.made
          (c.push_reserved.ensures.items
          ∙ ap (λ (worker : WorkerView). c.loop-worker.all.items ++ worker.pen ∷ []) c.worker.view_is);
      capacity = c.push_reserved.ensures.capacity ∙ before.capacity;
    }
