use Rattle.std.proofs.Common.{ap, ◌∙◌, sym, arith, subst}
use Rattle.atomic_table.specs.Table.{Me}
use Rattle.lane_clock.specs.declared.step.View.{View}
use Rattle.lane_clock.specs.Knowledge.{AreTogether}
use Rattle.lane_clock.proofs.JoinLemmas.{may_join}
use Rattle.lane_clock.proofs.StepLemmas.{may_hear}
use Rattle.lane_clock.proofs.clock.LaneClock.take_in.Goals as goal

pub join_seat-requires : goal.join_seat-requires
join_seat-requires c =
    let table = sym (ap (λ k. k.table) c.self.view_is) in (
      c.requires.same ∙ table,
      c.requires.there ∙ table,
      c.requires.empty,
      omega (arith, c.self.invariant.words),
      may_join _ _ _ _ _ c.requires.mine,
    )

pub load-requires : goal.load-requires
load-requires c =
    let table = sym (ap (λ k. k.table) c.self.view_is) in (
      c.join_seat.ensures.0 ∙ (c.requires.same ∙ table),
      omega (arith, c.self.invariant.words, c.words.ensures),
      may_hear _ _ _ _ _,
    )

pub returns : goal.returns
returns c = record {
  table = c.load.ensures.0 ∙ c.join_seat.ensures.0;
  view = c.load.ensures.2.0 ∙ c.join_seat.ensures.2;
  together =
      subst (λ (m : Me (Unit {0}) View). AreTogether m.0.knew m.0.heard) c.join_seat.ensures.2 c.load.ensures.2.1;
}
