use Rattle.std.proofs.Common.{◌≡◌, ◌<◌, ◌%◌, [], ◌∷◌, All, subst, sym, arith}
use Rattle.std.proofs.lemmas.List.Elements.{All-head, All-tail, All-push}
use Rattle.turn_table.specs.Seated.{Seated, IsSeatOf}
use Rattle.asio_speed.specs.declared.turns.Worker.{Worker}
use Rattle.asio_speed.proofs.turns.workers_of.Goals as goal

pub loop-i-preserved : goal.loop-i-preserved
loop-i-preserved c =
    let P : Seated → Type 0 = λ seat. IsSeatOf c.args.table.now seat × (seat.turns ≡ []) in
    let Q : Worker → Type 0 = λ worker. IsSeatOf c.args.table.now worker.seat
    × (worker.seat.turns ≡ []) × (worker.lane < c.args.table.now.lanes) in
    let all : All P (c.in-Some.seat ∷ c.next.new.self) =
    subst (All P) c.in-Some.ensures c.loop-i.invariant.left in
    let first : P c.in-Some.seat = All-head P _ _ all in
    let below : c.loop-i.i % c.args.lanes < c.args.table.now.lanes =
    let positive = c.requires.lanes.0 in let lanes = c.requires.lanes.1 in omega arith in
    record {
      left = All-tail P _ _ all;
      made = subst (All Q) (sym c.in_ok-push.ensures.items)
          (All-push Q _ _ c.loop-i.invariant.made (first.0, first.1, below));
    }
