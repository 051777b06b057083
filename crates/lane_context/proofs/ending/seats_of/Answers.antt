use Rattle.std.proofs.Common.{◌∷◌, ◌++◌, [], ap, length, refl, sym, ◌∙◌, arith, append_assoc, length-append}
use Rattle.std.specs.Vec.Iter.{into_iter_items}
use Rattle.std.proofs.lemmas.List.{length-map}
use Rattle.lane_turns.specs.Attempts.{WorkerState}
use Rattle.lane_turns.specs.Workers.{WorkerView}
use Rattle.lane_turns.proofs.ContextEndLemmas.{next_kept}
use Rattle.lane_turns.proofs.PartingLemmas.{made_more}
use Rattle.lane_context.proofs.ending.seats_of.Goals as goal

pub loop-worker-init : goal.loop-worker-init
loop-worker-init g c =
    record { front = []; split = sym c.into_iter-rest.ensures.rest; made = c.requires.none; capacity = refl }

pub into_seat-requires : goal.into_seat-requires
into_seat-requires g c =
    record {
      free =
          next_kept c.args.workers.items c.loop-worker.invariant.front (into_iter_items c.next.new.self) c.in-Some.worker
          (c.loop-worker.invariant.split ∙ ap (λ xs. c.loop-worker.invariant.front ++ xs) c.in-Some.ensures.items)
          c.requires.free;
    }

pub push_reserved-requires : goal.push_reserved-requires
push_reserved-requires g c =
    omega (
      arith,
      ap length (c.loop-worker.invariant.split ∙ ap (λ xs. c.loop-worker.invariant.front ++ xs) c.in-Some.ensures.items)
          ∙ length-append c.loop-worker.invariant.front (c.in-Some.worker ∷ into_iter_items c.next.new.self),
      ap length c.loop-worker.invariant.made
          ∙ length-map c.loop-worker.invariant.front (λ (w : WorkerState g.row.H.Denot g.row.X.Denot). w.seat),
      c.requires.room,
      c.loop-worker.invariant.capacity,
      c.loop-worker.all.ok,
    )

pub loop-worker-preserved : goal.loop-worker-preserved
loop-worker-preserved g c =
    let before = c.loop-worker.invariant in
    record {
      front = before.front ++ c.in-Some.worker ∷ [];
      split =
          before.split ∙ ap (λ xs. before.front ++ xs) c.in-Some.ensures.items
          ∙ sym (append_assoc before.front (c.in-Some.worker ∷ []) (into_iter_items c.next.new.self));
      made =
          made_more (λ (w : WorkerState g.row.H.Denot g.row.X.Denot). w.seat) [] c.loop-worker.all.items
          c.push_reserved.new.self.items before.front c.in-Some.worker before.made
          (c.push_reserved.ensures.items
          ∙ ap (λ (seat : WorkerView). c.loop-worker.all.items ++ seat ∷ []) c.into_seat.ensures);
      capacity = c.push_reserved.ensures.capacity ∙ before.capacity;
    }
