use Rattle.std.proofs.Common.{◌≡◌, ap, ◌∙◌, sym, arith, subst, ◌<◌, length, slice_index, true, false}
use Rattle.lane_clock.specs.Layout.{Layout, total, slot, cell_word}
use Rattle.lane_clock.specs.Seats.{SeatView, Owns, own}
use Rattle.lane_clock.specs.Steps.{has_drawn, has_put}
use Rattle.lane_clock.proofs.WordLemmas.{slot_within}
use Rattle.lane_clock.specs.declared.step.ClockStep.TheVariants.{Put}
use Rattle.lane_clock.specs.NoteWord.{note_in_word}
use Rattle.lane_clock.proofs.PlaceLemmas.{may_put}
use Rattle.lane_clock.proofs.NoteLemmas.{note_in_word-note_word, some_same}
use Rattle.lane_clock.proofs.SeatLemmas.{shown_step, cell_found, own_step, keeps_step}
use Rattle.lane_clock.proofs.clock.LaneClock.put_cell.Goals as goal

pub store-requires : goal.store-requires
store-requires c =
    let same = ap (λ s. s.clock) c.seat.view_is ∙ (c.requires.clock ∙ sym c.self.view_is) in
    let key : c.self.inside.table.shared.key ≡ c.args.self.now.plan =
    c.self.invariant.key ∙ ap (λ k. k.plan) c.self.view_is in
    let cell : c.args.place < slice_index c.self.inside.table.shared.key.cells c.args.lane =
    subst (λ (p : Layout). c.args.place < slice_index p.cells c.args.lane) (sym key) c.requires.cell in
    let is : c.cell_word.result ≡ cell_word c.self.inside.table.shared.key.cells c.args.lane c.args.place =
    c.cell_word.ensures
    ∙ ap (λ (p : Layout). cell_word p.cells c.args.lane c.args.place) (sym c.self.invariant.key) in
    let room : slot c.self.inside.table.shared.key.cells c.args.lane c.args.place
    < total c.self.inside.table.shared.key.cells =
    slot_within _ _ _ cell in
    let long : length c.self.inside.table.shared.key.cells ≡ length c.self.inside.plan.cells =
    ap (λ (p : Layout). length p.cells) c.self.invariant.key in
    let all : total c.self.inside.table.shared.key.cells ≡ total c.self.inside.plan.cells =
    ap (λ (p : Layout). total p.cells) c.self.invariant.key in
    let words = c.self.invariant.words in
    let plan = ap (λ k. k.plan) same ∙ sym c.self.invariant.key in
    let drawn =
    subst (λ (s : SeatView). has_drawn c.args.lane c.args.place (own s) ≡ true) (sym c.seat.view_is) c.requires.drawn in
    let fresh =
    subst (λ (s : SeatView). has_put c.args.lane c.args.place (own s) ≡ false) (sym c.seat.view_is) c.requires.fresh in (
      ap (λ k. k.table) same,
      omega (arith, words),
      may_put _ _ _ _ c.seat.invariant.mine c.args.lane c.args.place c.cell_word.result c.to_word.result c.args.note
          cell is plan c.to_word.ensures.note c.to_word.ensures.word drawn fresh,
    )

pub returns : goal.returns
returns c =
    let same = ap (λ s. s.clock) c.seat.view_is ∙ (c.requires.clock ∙ sym c.self.view_is) in
    let key : c.self.inside.table.shared.key ≡ c.args.self.now.plan =
    c.self.invariant.key ∙ ap (λ k. k.plan) c.self.view_is in
    let cell : c.args.place < slice_index c.self.inside.table.shared.key.cells c.args.lane =
    subst (λ (p : Layout). c.args.place < slice_index p.cells c.args.lane) (sym key) c.requires.cell in
    let is : c.cell_word.result ≡ cell_word c.self.inside.table.shared.key.cells c.args.lane c.args.place =
    c.cell_word.ensures
    ∙ ap (λ (p : Layout). cell_word p.cells c.args.lane c.args.place) (sym c.self.invariant.key) in
    let plan = ap (λ k. k.plan) same ∙ sym c.self.invariant.key in
    let found = cell_found _ _ c.args.lane c.args.place c.cell_word.result plan is cell in
    let put = c.store.ensures.2 in
    let note : put.0 ≡ c.args.note =
    some_same (sym put.1 ∙ (ap note_in_word c.to_word.ensures.word
    ∙ note_in_word-note_word c.args.note c.to_word.ensures.note)) in
    let mine = subst (λ (s : SeatView). Owns s s.number) c.seat.view_is c.seat.invariant.mine in
    let step =
    shown_step _ _ c.seat.inside.seat.me.0 _ _ (Put c.args.lane c.args.place c.args.note) _ c.store.ensures.0
    (ap (λ m. m.0) put.2) (λ i. Put (found.0 i) (found.1 i) (note i)) c.seat.view_is in
    record {
      step = step;
      own = ap own step ∙ own_step c.args.seat.now (Put c.args.lane c.args.place c.args.note) mine;
      keeps = keeps_step c.args.seat.now _ (Put c.args.lane c.args.place c.args.note) mine step;
    }
