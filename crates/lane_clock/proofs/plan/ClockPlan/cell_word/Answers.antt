use Rattle.std.proofs.Common.{◌≡◌, ap, ◌∙◌, ◌+◌, ◌^◌, sym, arith, subst, ◌<◌, slice_index}
use Rattle.lane_clock.specs.declared.plan.Row.{Row}
use Rattle.lane_clock.specs.Layout.{Layout, cell_word}
use Rattle.lane_clock.specs.Rows.{cells_in}
use Rattle.lane_clock.proofs.RowLemmas.{row_word}
use Rattle.lane_clock.proofs.plan.ClockPlan.cell_word.Goals as goal
use Rattle.lane_clock.proofs.plan.ClockPlan.cell_word.Goals.{After-index}

-- the sum is the word of the cell in the rows, and it fits
sum_is_word : (c : After-index) →
    (1 + c.len.result + c.index.result.now.start + c.args.place
    ≡ cell_word (cells_in c.self.inside.rows.items) c.args.lane c.args.place)
    × (1 + c.len.result + c.index.result.now.start + c.args.place < 2 ^ 64)
sum_is_word c =
    let inside =
    subst (λ (p : Layout). c.args.place < slice_index p.cells c.args.lane) (sym c.self.view_is) c.requires in
    let rows = c.self.inside.rows.items in
    let w = row_word rows c.self.inside.words c.args.lane c.args.place c.index.result.now c.self.invariant inside in
    let start = ap (λ (r : Row). r.start) c.index.ensures in
    let long = c.len.ensures in
    let fits = c.self.invariant.fits in
    (omega (arith, w.0), omega (arith, w.1))

pub overflow_add-result-2 : goal.overflow_add-result-2
overflow_add-result-2 c = let word = sum_is_word (goal.at.overflow_add-result-2 c).After-index in omega (arith, word.1)

pub overflow_add-result-3 : goal.overflow_add-result-3
overflow_add-result-3 c = let word = sum_is_word (goal.at.overflow_add-result-3 c).After-index in omega (arith, word.1)

pub returns : goal.returns
returns c =
    (sum_is_word (goal.at.returns c).After-index).0
    ∙ ap (λ (p : Layout). cell_word p.cells c.args.lane c.args.place) c.self.view_is
