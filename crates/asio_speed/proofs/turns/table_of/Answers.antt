use Rattle.std.proofs.Common.{◌≡◌, [], All, sym, refl, subst}
use Rattle.std.proofs.lemmas.List.Elements.{All-map}
use Rattle.turn_table.specs.Seated.{Seated, IsSeatOf, new_turn_seat}
use Rattle.asio_speed.proofs.turns.table_of.Goals as goal

pub returns-in-Ok-clause-seats : goal.returns-in-Ok-clause-seats
returns-in-Ok-clause-seats c =
    let made = c.in-Ok.made in
    let P : Seated → Type 0 = λ seat. IsSeatOf made.0 seat × (seat.turns ≡ []) in
    subst (All P) (sym c.in-Ok.ensures.seats) (All-map P (new_turn_seat made.0) _ (λ k d lt. ((refl, refl), refl)))
