use Rattle.std.proofs.Common.{◌≡◌, ap, ◌∙◌, sym, arith, subst, ◌<◌, length, false, ◌+◌}
use Rattle.lane_clock.specs.Seats.{SeatView, Owns, own}
use Rattle.lane_clock.specs.Steps.{has_drawn, has_put, step_count, place_count}
use Rattle.lane_clock.specs.declared.step.ClockStep.TheVariants.{Place}
use Rattle.lane_clock.specs.Layout.{Layout, lane_of_place}
use Rattle.lane_clock.proofs.SeatLemmas.{shown_step, own_step, keeps_step, drawn_last, fresh_last}
use Rattle.lane_clock.proofs.PlaceLemmas.{may_place}
use Rattle.lane_clock.proofs.clock.LaneClock.place_in.Goals as goal

pub fetch_add-place-requires : goal.fetch_add-place-requires
fetch_add-place-requires c =
    let same = ap (λ s. s.clock) c.seat.view_is ∙ (c.requires.clock ∙ sym c.self.view_is) in
    let key : c.self.inside.table.shared.key ≡ c.args.self.now.plan =
    c.self.invariant.key ∙ ap (λ k. k.plan) c.self.view_is in
    let lane : c.args.lane < length c.self.inside.table.shared.key.cells =
    subst (λ (p : Layout). c.args.lane < length p.cells) (sym key) c.requires.lane in
    let words = c.self.invariant.words in
    let plan = c.self.invariant.key in
    let room = subst (λ (s : SeatView). step_count place_count (own s) < 65536) (sym c.seat.view_is) c.requires.room in
    let long : length c.self.inside.table.shared.key.cells ≡ length c.self.inside.plan.cells =
    ap (λ (p : Layout). length p.cells) plan in
    (ap (λ k. k.table) same, omega (arith, words), may_place _ _ _ _ c.seat.invariant.mine c.args.lane lane room)

pub returns-clause-drew : goal.returns-clause-drew
returns-clause-drew c =
    let mine = subst (λ (s : SeatView). Owns s s.number) c.seat.view_is c.seat.invariant.mine in
    let lane : lane_of_place (1 + c.args.lane) ≡ c.args.lane = omega arith in
    let step =
    shown_step _ _ c.seat.inside.seat.me.0 _ _ (Place c.args.lane c.fetch_add-place.result) _
    c.fetch_add-place.ensures.0 (ap (λ m. m.0) c.fetch_add-place.ensures.2.0)
    (λ i. Place (lane i) c.fetch_add-place.result) c.seat.view_is in
    ap (has_drawn c.args.lane c.fetch_add-place.result)
    (ap own step ∙ own_step c.args.seat.now (Place c.args.lane c.fetch_add-place.result) mine)
    ∙ drawn_last c.args.lane c.fetch_add-place.result (own c.args.seat.now)

pub returns-clause-fresh : goal.returns-clause-fresh
returns-clause-fresh c =
    let mine = subst (λ (s : SeatView). Owns s s.number) c.seat.view_is c.seat.invariant.mine in
    let lane : lane_of_place (1 + c.args.lane) ≡ c.args.lane = omega arith in
    let step =
    shown_step _ _ c.seat.inside.seat.me.0 _ _ (Place c.args.lane c.fetch_add-place.result) _
    c.fetch_add-place.ensures.0 (ap (λ m. m.0) c.fetch_add-place.ensures.2.0)
    (λ i. Place (lane i) c.fetch_add-place.result) c.seat.view_is in
    let new : has_put c.args.lane c.fetch_add-place.result (own c.args.seat.now) ≡ false =
    (λ i. has_put (sym lane i) c.fetch_add-place.result (own (sym c.seat.view_is i)))
    ∙ c.fetch_add-place.ensures.2.1 in
    ap (has_put c.args.lane c.fetch_add-place.result)
    (ap own step ∙ own_step c.args.seat.now (Place c.args.lane c.fetch_add-place.result) mine)
    ∙ fresh_last c.args.lane c.fetch_add-place.result c.args.lane c.fetch_add-place.result (own c.args.seat.now) new

pub returns-clause-keeps : goal.returns-clause-keeps
returns-clause-keeps c =
    let mine = subst (λ (s : SeatView). Owns s s.number) c.seat.view_is c.seat.invariant.mine in
    let lane : lane_of_place (1 + c.args.lane) ≡ c.args.lane = omega arith in
    keeps_step c.args.seat.now _ (Place c.args.lane c.fetch_add-place.result) mine
    (shown_step _ _ c.seat.inside.seat.me.0 _ _ (Place c.args.lane c.fetch_add-place.result) _
    c.fetch_add-place.ensures.0 (ap (λ m. m.0) c.fetch_add-place.ensures.2.0)
    (λ i. Place (lane i) c.fetch_add-place.result) c.seat.view_is)
