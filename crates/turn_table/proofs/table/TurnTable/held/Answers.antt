use Rattle.std.proofs.Common.{[], ◌∷◌, refl, ap, ◌∙◌, arith}
use Rattle.turn_table.specs.TurnSteps.{first_view}
use Rattle.turn_table.proofs.NumberLemmas.{has_run}
use Rattle.turn_table.proofs.TableLemmas.{opens}
use Rattle.turn_table.proofs.table.TurnTable.held.Goals as goal

pub new-requires : goal.new-requires
new-requires g c =
    opens g.T.Home.home_of (record { lanes = c.args.lanes; seats = c.args.seats }) c.as_slice.result.now
    c.in_ok-reserved.reserved.places.items c.requires.seats
    (c.as_slice.ensures.value ∙ c.in_ok-reserved.ensures.words) c.in_ok-reserved.ensures.places

pub invariant_of-seat : goal.invariant_of-seat
invariant_of-seat g c = record {
  view = first_view record { lanes = c.args.lanes; seats = c.args.seats };
  sole = c.into_badge.ensures.2 ∙ ap (λ m. m.0 ∷ []) c.in-Ok.ensures.ok.4;
  hand = refl;
  number = 0;
  stands = has_run 0 0 c.args.seats (omega arith) (let more = c.requires.seats in omega arith);
}
