-- Where an operation completes there is room for it among those that are ready.
use Rattle.std.proofs.Common.{arith, ap, refl, sym, ◌∙◌}
use Rattle.std.proofs.lemmas.List.{get_or-replicate, length-map, length-replicate}
use Rattle.std.proofs.Math.ListN.{get_or-map}
use Rattle.std.specs.Prelude.{◌≡◌, ◌<◌, ◌≤◌, ℕ, ◌+◌, true, List, None, length}
use Rattle.std.specs.List.{slice_index_or}
use Rattle.asio_types.specs.declared.code.Code.TheVariants as code
use Rattle.io_rules.specs.declared.limits.Limits.{Limits}
use Rattle.io_rules.specs.declared.name.Lane.{Lane}
use Rattle.io_rules.specs.declared.name.Lane.TheVariants as lane
use Rattle.io_rules.specs.declared.name.Name.{Name}
use Rattle.io_rules.specs.declared.op.Op.{Op}
use Rattle.io_rules.specs.declared.op.Phase.{Phase}
use Rattle.io_rules.specs.declared.op.Phase.TheVariants as phase
use Rattle.io_rules.specs.declared.request.Marks.{Marks}
use Rattle.io_rules.specs.Names.{Names, is_current, is_on, place_at}
use Rattle.io_rules.specs.Ops.{with_phase}
use Rattle.io_rules.specs.Room.{one_if, places_in}
use Rattle.io_rules.specs.State.{ContextState, StrandState}
use Rattle.io_rules.proofs.FitLemmas.{FitsStrand, if_prepared, waits_on}
use Rattle.io_rules.proofs.OnceLemmas.{total-less}
use Rattle.io_rules.proofs.StageLemmas.{Idle, stage_of, staged}
use Rattle.io_rules.proofs.StrandLemmas.{name-itself, strand_is}
use Rattle.io_rules.proofs.TotalLemmas.{sum_by-total, total, total-changed}
use Rattle.io_strands.specs.declared.ready.ReadyOp.{ReadyOp}
use Rattle.io_strands.specs.Cell.{Cell, may_begin, vacant}
use Rattle.io_strands.specs.Numbered.{number_of}
use Rattle.io_jobs.specs.Listed.{JobList}
use Rattle.io_scheduler.specs.declared.counts.Counts.{Counts}
use Rattle.io_scheduler.specs.Completed.{MayBeReadyOn}
use Rattle.io_scheduler.specs.Shown.{Shows, cell_at, is_used_place, room_of, waits_own}
use Rattle.io_scheduler.proofs.CompletedLemmas.{IsUnready, own_completed}
use Rattle.io_scheduler.proofs.ListedLemmas.{cell_is}
use Rattle.io_scheduler.proofs.SpaceLemmas.{own_place, owns_are, strand_place, there_is}

-- it has a place of its own, before and behind
one_place : (p : Phase) → stage_of p ≡ Idle → places_in p ≡ 1
one_place (phase.Pending moved cancelled) idle = refl
one_place (phase.Settled code size) idle = refl
one_place (phase.Ready code size) idle = refl
one_place (phase.Running own grant spares) idle = absurd (cc)

module _ {H S : Type 0} (marks : H → Marks) (limits : Limits) (counts : Counts) (names : Names) (cells : List (Cell H S))
    (jobs : JobList (ReadyOp H)) (s : ContextState) (n : ℕ) (handler : H)
    (places : s.room + total (λ (op : Op). places_in op.phase) s.ops ≡ limits.operations)
    (shows : Shows marks limits counts names cells jobs s) where
  new : List Op
  new = with_phase n (phase.Ready code.Ok 0) s.ops

  few : (on : Lane) (it : IsUnready marks s.ops on n handler) → stage_of it.op.phase ≡ Idle →
      total (λ (op : Op). places_in op.phase) new ≤ limits.operations
  unfolding new
  few on it idle =
      let step = total-changed (λ op. places_in op.phase) n (λ op. phase.Ready code.Ok 0) s.ops it.op it.is in
      let one = one_place it.op.phase idle in
      omega (arith, step, one, places)

  pub own_room : (it : IsUnready marks s.ops lane.Own n handler) → stage_of it.op.phase ≡ Idle →
      MayBeReadyOn lane.Own cells jobs
  unfolding new
  own_room it idle =
      let less = total-less waits_own (λ op. places_in op.phase) (λ op. own_place op.lane op.phase) new in
      let most = few lane.Own it idle in
      let more = own_completed marks n code.Ok 0 None None handler s.ops lane.Own it in
      let waits = sum_by-total waits_own new in
      let all = shows.own_all in let are = owns_are jobs.ring in let room = shows.own_room in
      omega (arith, less, most, more, waits, all, are, room)

  pub strand_room : (name : Name) → FitsStrand s name → is_current s.names.strands name ≡ true → name.place < length cells →
      is_used_place (place_at s.names.strands name.place) ≡ true →
      (it : IsUnready marks s.ops (lane.Strand name) n handler) → stage_of it.op.phase ≡ Idle →
      MayBeReadyOn (lane.Strand name) cells jobs
  unfolding new
  strand_room name fits current within used it idle =
      let p = name.place in
      let cell = cell_at cells p in
      let listed = ap length shows.listed ∙ length-map cells may_begin in
      let waits = fits.waits_fits in
      let queue = ap (λ (st : StrandState). length st.queue)
      (strand_is s.names.strands s.strands name current ∙ sym (cell_is cells s.strands p shows.strands)) in
      let many = length-map cell.queue number_of in
      let less = total-less (staged (waits_on name)) (λ op. places_in op.phase)
      (λ op. strand_place op.phase (is_on name op.lane)) new in
      let most = few (lane.Strand name) it idle in
      let step = total-changed (staged (waits_on name)) n (λ op. phase.Ready code.Ok 0) s.ops it.op it.is in
      let before : staged (waits_on name) it.op ≡ 0 = ap (λ stage. if_prepared stage (is_on name it.op.lane)) idle in
      let behind : one_if (is_on name it.op.lane) ≡ 1 =
      ap (λ l. one_if (is_on name l)) it.lane ∙ ap one_if (name-itself name) in
      let size = ap length shows.rooms in
      let one = length-map cells room_of in
      let all = length-replicate limits.strands limits.operations in
      let room : cell.room ≡ limits.operations =
      sym (get_or-map room_of cells p (vacant 0))
      ∙ ap (λ rooms. slice_index_or rooms p 0) shows.rooms
      ∙ get_or-replicate limits.strands p limits.operations 0 (omega (arith, within, size, one, all)) in
      record {
        within = within;
        listed = omega (arith, within, listed);
        ready = record {
          there = there_is cells s.names.strands p shows.there ∙ used;
          room = omega (arith, waits, queue, many, less, most, step, before, behind, room);
        };
      }
