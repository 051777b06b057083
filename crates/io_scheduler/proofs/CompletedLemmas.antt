-- An operation that wasn't ready completes: what is kept shows the state behind that.
use Rattle.std.proofs.Common.{arith, ap, refl, subst, sym, ◌∙◌}
use Rattle.std.proofs.lemmas.Bool.{true≢false}
use Rattle.std.proofs.lemmas.List.{get_or-set_other, get_or-set_same, length_push, map-set}
use Rattle.std.proofs.Math.Seq.{map-set_same}
use Rattle.std.specs.Global.{Vec}
use Rattle.std.specs.Prelude.{◌≡◌, ◌<◌, ℕ, ◌+◌, ◌==◌, true, false, List, [], ◌∷◌, Option, Some, length, map, sum_by}
use Rattle.std.specs.List.{slice_set}
use Rattle.asio_types.specs.declared.code.Code.{Code}
use Rattle.io_rules.specs.declared.limits.Limits.{Limits}
use Rattle.io_rules.specs.declared.name.Lane.{Lane}
use Rattle.io_rules.specs.declared.name.Lane.TheVariants as lane
use Rattle.io_rules.specs.declared.name.Name.{Name}
use Rattle.io_rules.specs.declared.op.Op.{Op}
use Rattle.io_rules.specs.declared.op.Wait.{Wait}
use Rattle.io_rules.specs.declared.op.Phase.{Phase}
use Rattle.io_rules.specs.declared.op.Phase.TheVariants as phase
use Rattle.io_rules.specs.declared.request.Marks.{Marks}
use Rattle.io_rules.specs.Names.{Names, is_current}
use Rattle.io_rules.specs.Ops.{is_ready, op_at, with_phase}
use Rattle.io_rules.specs.State.{ContextState, strand_at}
use Rattle.io_rules.specs.Strands.{ready_on}
use Rattle.io_rules.proofs.StrandLemmas.{by_test}
use Rattle.io_rules.proofs.TotalLemmas.{apart, equal, sum_by-total, total-changed}
use Rattle.io_history.proofs.AtLemmas.{at-changed}
use Rattle.io_strands.specs.declared.ready.ReadyOp.{ReadyOp}
use Rattle.io_strands.specs.Cell.{Cell, is_there, may_begin, readied, vacant}
use Rattle.io_strands.specs.Numbered.{numbered}
use Rattle.io_strands.proofs.StepLemmas.{steps_alike}
use Rattle.io_jobs.specs.Listed.{JobList}
use Rattle.io_scheduler.specs.declared.counts.Counts.{Counts}
use Rattle.io_scheduler.specs.Completed.{completed_state, readied_cells, readied_jobs}
use Rattle.io_scheduler.specs.Ready.{AreReady, IsNone, IsReadyAs, own_ops}
use Rattle.io_scheduler.specs.Shown.{Shows, ShowsCell, cell_at, lane_of_place, room_of, waits_own, waits_own_on}
use Rattle.io_scheduler.proofs.BegunLemmas.{below_begun}
use Rattle.io_scheduler.proofs.ListedLemmas.{cell_is, flag_is, listed-if, not_before, own-if, own-push, room-if}
use Rattle.io_scheduler.proofs.PostedLemmas.{lane_current}
use Rattle.io_scheduler.proofs.ReadyLemmas.{Keeps, at_changed, ready-kept, ready-push}
use Rattle.io_scheduler.proofs.SpareLemmas.{spares_changed}

-- what completes, with its handler
abbrev pub ready_with : {H : Type 0} → ℕ → Code → ℕ → Option (Vec ℕ) → Option Name → H → ReadyOp H
ready_with n code size buffer made handler =
    record { number = n; code = code; size = size; buffer = buffer; made = made; handler = handler }

-- the operation isn't ready yet, and its handler is to execute on this lane
pub record IsUnready {H : Type 0} (marks : H → Marks) (ops : List Op) (on : Lane) (n : ℕ) (handler : H) : Type 0 where
  pub op : Op
  pub is : op_at ops n ≡ Some op
  pub lane : op.lane ≡ on
  pub given : op.marks ≡ marks handler
  pub unready : is_ready op.phase ≡ false

found_same : (a b : Op) → Some a ≡ Some b → a ≡ b
found_same a b is = cc

-- another one is ready
not_it : (ops : List Op) (n m : ℕ) (it op : Op) → op_at ops n ≡ Some it → is_ready it.phase ≡ false →
    op_at ops m ≡ Some op → is_ready op.phase ≡ true → n ≡ m → ⊥
not_it ops n m it op at isnt is ready here =
    let same_op : op ≡ it = found_same op it (sym is ∙ ap (op_at ops) (sym here) ∙ at) in
    true≢false (sym ready ∙ ap (λ (o : Op). is_ready o.phase) same_op ∙ isnt)

pub keeps_completed : (n : ℕ) (p : Phase) (ops : List Op) (it : Op) → op_at ops n ≡ Some it → is_ready it.phase ≡ false →
    Keeps ops (with_phase n p ops)
keeps_completed n p ops it at isnt m op is ready =
    at-changed n m (λ o. p) ops op (λ (here : n ≡ m). absurd (not_it ops n m it op at isnt is ready here)) is

pub none_completed : {H : Type 0} (marks : H → Marks) (ops : List Op) (on : Lane) (n : ℕ) (it : Op) (queue : List (ReadyOp H)) →
    op_at ops n ≡ Some it → is_ready it.phase ≡ false → AreReady marks ops on queue → IsNone n queue
none_completed marks ops on n it [] at isnt are = tt
none_completed marks ops on n it (r ∷ rest) at isnt are = (
  by_test (r.number == n)
      (λ here.
      absurd (not_it ops n r.number it are.0.op at isnt are.0.is (ap is_ready are.0.phase) (sym (equal r.number n here))))
      (λ other. other),
  none_completed marks ops on n it rest at isnt are.2,
)

module _ {H : Type 0} (marks : H → Marks) (n : ℕ) (code : Code) (size : ℕ)
    (buffer : Option (Vec ℕ)) (made : Option Name) (handler : H) where
  pub is_completed : (ops : List Op) (on : Lane) → IsUnready marks ops on n handler →
      IsReadyAs marks (with_phase n (phase.Ready code size) ops) on (ready_with n code size buffer made handler)
  is_completed ops on it = record {
    op = record it.op { phase = phase.Ready code size };
    is = at_changed n (λ o. phase.Ready code size) ops it.op it.is;
    lane = it.lane;
    given = it.given;
    phase = refl;
  }

  pub own_completed : (ops : List Op) (on : Lane) → IsUnready marks ops on n handler →
      sum_by waits_own (with_phase n (phase.Ready code size) ops) ≡ sum_by waits_own ops + waits_own_on on true
  own_completed ops on it =
      let old = sum_by-total waits_own ops in
      let new = sum_by-total waits_own (with_phase n (phase.Ready code size) ops) in
      let step = total-changed waits_own n (λ op. phase.Ready code size) ops it.op it.is in
      let before : waits_own it.op ≡ 0 = ap (waits_own_on it.op.lane) it.unready ∙ waits_none it.op.lane in
      let behind : waits_own_on it.op.lane true ≡ waits_own_on on true = ap (λ l. waits_own_on l true) it.lane in
      omega (arith, old, new, step, before, behind)
    where
      waits_none : (l : Lane) → waits_own_on l false ≡ 0
      waits_none lane.Own = refl
      waits_none (lane.Strand name) = refl

module _ {H S : Type 0} (marks : H → Marks) (n : ℕ) (code : Code) (size : ℕ)
    (buffer : Option (Vec ℕ)) (made : Option Name) (handler : H) where
  -- what is ready elsewhere stays
  cell_elsewhere : (ops : List Op) (next : ℕ) (on at : Lane) (c : Cell H S) → IsUnready marks ops on n handler →
      ShowsCell marks ops next at c → ShowsCell marks (with_phase n (phase.Ready code size) ops) next at c
  cell_elsewhere ops next on at c it shows = record {
    ready = ready-kept marks ops (with_phase n (phase.Ready code size) ops) at c.queue
        (keeps_completed n (phase.Ready code size) ops it.op it.is it.unready) shows.ready;
    tied = shows.tied;
    idle = shows.idle;
  }

  -- the strand of the operation
  cell_here : (ops : List Op) (next : ℕ) (on : Lane) (c : Cell H S) → IsUnready marks ops on n handler →
      ShowsCell marks ops next on c →
      ShowsCell marks (with_phase n (phase.Ready code size) ops) next on (readied (ready_with n code size buffer made handler) c)
  cell_here ops next on c it shows = record {
    ready = ready-push marks (with_phase n (phase.Ready code size) ops) on c.queue (ready_with n code size buffer made handler)
        (ready-kept marks ops (with_phase n (phase.Ready code size) ops) on c.queue
        (keeps_completed n (phase.Ready code size) ops it.op it.is it.unready) shows.ready)
        (is_completed marks n code size buffer made handler ops on it)
        (none_completed marks ops on n it.op c.queue it.is it.unready shows.ready);
    tied = shows.tied;
    idle = shows.idle;
  }

  module _ (limits : Limits) (counts : Counts) (names : Names) (cells : List (Cell H S)) (jobs : JobList (ReadyOp H))
      (s : ContextState) (settled : List ℕ) (waits : List Wait) (none : settled ≡ [])
      (shows : Shows marks limits counts names cells jobs s) where
    -- without a strand
    pub completed_own : IsUnready marks s.ops lane.Own n handler →
        Shows marks limits counts names cells (readied_jobs lane.Own (ready_with n code size buffer made handler) cells jobs)
        (completed_state n code size lane.Own settled waits s)
    completed_own it =
        let ready = ready_with n code size buffer made handler in
        let new = with_phase n (phase.Ready code size) s.ops in
        let push = own-push jobs.ring ready in
        let longer = length_push (own_ops jobs.ring) ready in
        let count = own_completed marks n code size buffer made handler s.ops lane.Own it in let all = shows.own_all in
        record {
          limits_are = shows.limits_are;
          counts_are = shows.counts_are;
          names_are = shows.names_are;
          below = below_begun s.next n (λ o. phase.Ready code size) s.ops shows.below;
          spares = spares_changed s.names.strands n (phase.Ready code size) s.ops shows.spares tt;
          strands = shows.strands;
          there = shows.there;
          rooms = shows.rooms;
          each = λ k. cell_elsewhere s.ops s.next lane.Own (lane_of_place s.names.strands k) (cell_at cells k) it (shows.each k);
          listed = shows.listed;
          own = subst (AreReady marks new lane.Own) (sym push)
              (ready-push marks new lane.Own (own_ops jobs.ring) ready
              (ready-kept marks s.ops new lane.Own (own_ops jobs.ring)
              (keeps_completed n (phase.Ready code size) s.ops it.op it.is it.unready) shows.own)
              (is_completed marks n code size buffer made handler s.ops lane.Own it)
              (none_completed marks s.ops lane.Own n it.op (own_ops jobs.ring) it.is it.unready shows.own));
          own_all = ap length push ∙ omega (arith, longer, count, all);
          own_room = shows.own_room;
          settled = none;
          going = shows.going;
        }

    -- on a strand
    pub completed_strand : (name : Name) → is_current s.names.strands name ≡ true → name.place < length cells →
        IsUnready marks s.ops (lane.Strand name) n handler →
        Shows marks limits counts names (readied_cells (lane.Strand name) (ready_with n code size buffer made handler) cells)
        (readied_jobs (lane.Strand name) (ready_with n code size buffer made handler) cells jobs)
        (completed_state n code size (lane.Strand name) settled waits s)
    completed_strand name current within it =
        let ready = ready_with n code size buffer made handler in
        let new = with_phase n (phase.Ready code size) s.ops in
        let p = name.place in
        let old = cell_at cells p in
        let cell = readied ready old in
        let ring = own-if (may_begin cell) jobs p in
        let count = own_completed marks n code size buffer made handler s.ops (lane.Strand name) it in let all = shows.own_all in
        record {
          limits_are = shows.limits_are;
          counts_are = shows.counts_are;
          names_are = shows.names_are;
          below = below_begun s.next n (λ o. phase.Ready code size) s.ops shows.below;
          spares = spares_changed s.names.strands n (phase.Ready code size) s.ops shows.spares tt;
          strands =
              map-set numbered cells p cell
              ∙ ap (λ c. slice_set (map numbered cells) p c)
              (steps_alike.ready ready old ∙ ap (ready_on n) (cell_is cells s.strands p shows.strands))
              ∙ ap (λ xs. slice_set xs p (ready_on n (strand_at s.strands name))) shows.strands;
          there = map-set_same is_there cells p cell (vacant 0) refl ∙ shows.there;
          rooms = map-set_same room_of cells p cell (vacant 0) refl ∙ shows.rooms;
          each = λ k.
              by_test (p == k)
              (λ here.
              subst
              (λ j. ShowsCell marks new s.next (lane_of_place s.names.strands j) (cell_at (slice_set cells p cell) j))
              (equal p k here)
              (subst (λ c. ShowsCell marks new s.next (lane_of_place s.names.strands p) c)
              (sym (get_or-set_same cells p cell (vacant 0) within))
              (subst (λ l. ShowsCell marks new s.next l cell) (sym (lane_current s.names name current))
              (cell_here s.ops s.next (lane.Strand name) old it
              (subst (λ l. ShowsCell marks s.ops s.next l old) (lane_current s.names name current) (shows.each p))))))
              (λ other.
              subst (λ c. ShowsCell marks new s.next (lane_of_place s.names.strands k) c)
              (sym (get_or-set_other cells p k cell (vacant 0) (apart p k other)))
              (cell_elsewhere s.ops s.next (lane.Strand name) (lane_of_place s.names.strands k) (cell_at cells k) it
              (shows.each k)));
          listed =
              listed-if (may_begin cell) jobs p
              (λ isnt. flag_is cells jobs p shows.listed ∙ not_before false ready old isnt)
              ∙ ap (λ xs. slice_set xs p (may_begin cell)) shows.listed
              ∙ sym (map-set may_begin cells p cell);
          own = subst (AreReady marks new lane.Own) (sym ring)
              (ready-kept marks s.ops new lane.Own (own_ops jobs.ring)
              (keeps_completed n (phase.Ready code size) s.ops it.op it.is it.unready) shows.own);
          own_all = ap length ring ∙ omega (arith, count, all);
          own_room = room-if (may_begin cell) jobs p ∙ shows.own_room;
          settled = none;
          going = shows.going;
        }
