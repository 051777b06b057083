use Rattle.std.proofs.Common.{◌≡◌, ap, ◌∙◌, sym, subst, true}
use Rattle.lane_clock.specs.Knowledge.{known_at, AreTogether}
use Rattle.lane_clock.specs.Seats.{SeatView, Owns, own}
use Rattle.lane_clock.specs.declared.step.View.{View}
use Rattle.lane_clock.proofs.JoinLemmas.{join_mine}
use Rattle.lane_clock.proofs.SeatLemmas.{shown_join, own_join, keeps_join}
use Rattle.lane_clock.proofs.AgreeLemmas.{remembers_own, remembers_other}
use Rattle.lane_clock.proofs.clock.LaneClock.meet.Goals as goal

pub take_in-requires : goal.take_in-requires
take_in-requires c = record {
  same = ap (λ s. s.clock.table) c.seat.view_is ∙ ap (λ k. k.table) c.requires.clock;
  there = ap (λ s. s.clock.table) c.copy.view_is ∙ ap (λ k. k.table) c.requires.same;
  empty = c.copy.invariant;
  mine = c.seat.invariant.mine;
}

pub invariant_of-seat : goal.invariant_of-seat
invariant_of-seat c = record {
  empty = ap (λ m. m.1) c.take_in.ensures.view ∙ c.seat.invariant.empty;
  mine =
      subst (λ (v : View). (known_at v.known v.number).mine ≡ true) (sym (ap (λ m. m.0) c.take_in.ensures.view))
      (join_mine c.seat.inside.seat.me.0 _ c.seat.invariant.mine);
}

pub returns : goal.returns
returns c =
    let mine = subst (λ (s : SeatView). Owns s s.number) c.seat.view_is c.seat.invariant.mine in
    let step =
    shown_join _ _ c.seat.inside.seat.me.0 _ _ c.args.copy.known _ c.take_in.ensures.table
    (ap (λ m. m.0) c.take_in.ensures.view) (ap (λ (s : SeatView). s.known) c.copy.view_is) c.seat.view_is in
    let heard : AreTogether c.args.seat.now.known c.args.copy.known =
    subst (AreTogether c.args.seat.now.known) (ap (λ (s : SeatView). s.known) c.copy.view_is)
    (subst (λ (s : SeatView). AreTogether s.known c.copy.inside.seat.me.0.known) c.seat.view_is c.take_in.ensures.together)
    in
    record {
      step = step;
      own = ap own step ∙ own_join c.args.seat.now c.args.copy.known mine;
      keeps = keeps_join c.args.seat.now _ c.args.copy.known mine step;
      agree = heard.agree;
      whole = heard.first;
      remembers = (
        remembers_own c.args.seat.now c.args.copy _ mine step heard,
        remembers_other c.args.seat.now c.args.copy _ mine step heard,
      );
    }
