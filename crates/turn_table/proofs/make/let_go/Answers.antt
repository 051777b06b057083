use Rattle.std.proofs.Common.{◌≡◌, false, get_or, set, sym, ap, ◌∙◌, ⊎_elim, arith, get_or-set_other, get_or-set_same}
use Rattle.std.proofs.lemmas.Bool.{cases_eq}
use mathlib.Core.Option.{some-injective}
use lib.ListN.{get_elem?}
use Rattle.std.specs.Mem.Slots.{slots_items, slots_filled, slots_counts}
use Rattle.turn_table.proofs.make.let_go.Goals as goal

pub unreachable-requires-in_default-place : goal.unreachable-requires-in_default-place
unreachable-requires-in_default-place g c =
    let same : slots_items c.loop-lane.closed.slots ≡ slots_items c.args.closed.slots =
    c.loop-lane.invariant.0 ∙ c.take-last.ensures.others.0 in
    c.in_default-place.not-Empty
    (some-injective _ _
    (sym c.take-place.ensures.value
    ∙ (ap (λ xs. get_elem? xs c.loop-lane.lane) same
    ∙ c.requires.vacant.each c.loop-lane.lane c.loop-lane-test.true)))

pub loop-lane-preserved : goal.loop-lane-preserved
loop-lane-preserved g c =
    let was = c.loop-lane.invariant in
    let took = c.take-place.ensures in
    let filled = slots_filled c.loop-lane.closed.slots in let lane = c.loop-lane.lane in
    let inside = c.loop-lane-test.true in let count = was.1 in let long = (slots_counts c.loop-lane.closed.slots).1 in
    let now : slots_filled c.take-place.new.self.slots ≡ set filled lane false = took.others.1 in (
      took.others.0 ∙ was.0,
      took.others.2 ∙ was.1,
      (λ k low high.
          ap (λ fs. get_or fs k false) now
          ∙ (get_or-set_other filled lane k false false (λ e. omega arith) ∙ was.2 k (omega arith) high)),
      (λ k low.
          ap (λ fs. get_or fs k false) now
          ∙ ⊎_elim
          (λ e.
          ap (λ i. get_or (set filled lane false) i false) e
          ∙ get_or-set_same filled lane false false (omega arith))
          (λ other. get_or-set_other filled lane k false false other ∙ was.3 k (omega arith)) (cases_eq k lane)),
      ap (λ fs. get_or fs c.args.lanes false) now
          ∙ (get_or-set_other filled lane c.args.lanes false false (λ e. omega arith) ∙ was.4),
      omega arith,
    )
