use Rattle.std.proofs.Common.{rules, [], ◌∷◌, ap, ◌∙◌, refl, subst}
use Rattle.turn_table.specs.Numbers.{Has, greatest}
use Rattle.turn_table.specs.TurnSteps.{parted_left, parted_right}
use Rattle.turn_table.proofs.NumberLemmas.{has_head, kept_number}
use Rattle.turn_table.proofs.SeatLemmas.{sat}
use Rattle.turn_table.proofs.ViewLemmas.{parts}
use Rattle.turn_table.proofs.table.TurnTable.part.Goals as goal

pub split_seat-parted-requires : goal.split_seat-parted-requires
split_seat-parted-requires g c =
    let now = sat _ _ _ _ c.seat.invariant c.seat.view_is c.sit-at.ensures.view in let two = c.requires.two in (
      search rules,
      search rules,
      parts g.T.Home.home_of c.self.inside.table.shared.key _ _ two.0 two.1 two.2
          (subst (λ xs. Has xs two.0) now.numbers two.3) (subst (λ xs. Has xs two.1) now.numbers two.4),
    )

pub invariant_of-seat : goal.invariant_of-seat
invariant_of-seat g c =
    let now = sat _ _ _ _ c.seat.invariant c.seat.view_is c.sit-at.ensures.view in
    let two = c.requires.two in let v = c.sit-at.result.me.0 in
    let kept =
    kept_number (greatest v.numbers) v.numbers two.0 two.1 two.2 (subst (λ xs. Has xs two.0) now.numbers two.3)
    (subst (λ xs. Has xs two.1) now.numbers two.4) in
    record {
      view = parted_left v;
      sole = c.into_badge.ensures.2 ∙ ap (λ m. m.0 ∷ []) c.split_seat-parted.ensures.2;
      hand = now.hand;
      number = kept.0;
      stands = kept.1;
    }

pub invariant_of-result : goal.invariant_of-result
invariant_of-result g c = let v = c.sit-at.result.me.0 in record {
  view = parted_right v;
  sole = c.into_badge-2.ensures.2 ∙ ap (λ m. m.0 ∷ []) c.split_seat-parted.ensures.4;
  hand = refl;
  number = greatest v.numbers;
  stands = has_head (greatest v.numbers) [];
}
