use Rattle.std.proofs.Common.{◌≡◌, ◌++◌, ◌∷◌, [], replicate, ap, ◌∙◌, arith}
use Rattle.turn_table.specs.declared.place.TablePlace.TheVariants.{Empty, Room}
use Rattle.turn_table.proofs.make.lay_out.Goals as goal

pub returns : goal.returns
returns g c =
    let all : c.loop-lane.lane ≡ c.args.lanes = omega (arith, c.loop-lane.invariant.0, c.loop-lane-test.false) in
    record {
      room = c.args.room;
      is_room = record { empty = c.requires.empty; fits = c.requires.fits };
      are =
          c.push_reserved-2.ensures.items
          ∙ ap (λ ps. ps ++ Room c.args.room ∷ []) (c.loop-lane.invariant.1 ∙ ap (λ n. replicate n Empty) all);
    }
