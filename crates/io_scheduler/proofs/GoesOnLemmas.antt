-- An operation of a stream has moved further and goes on: what is kept shows the state behind that.
use Rattle.std.proofs.Common.{arith, ap, refl, subst, sym, ◌∙◌}
use Rattle.std.specs.Prelude.{◌≡◌, ◌≢◌, ◌<◌, ℕ, ◌==◌, cond, Bool, false, List, [], ◌∷◌, Some, map}
use Rattle.io_rules.specs.declared.limits.Limits.{Limits}
use Rattle.io_rules.specs.declared.name.Lane.{Lane}
use Rattle.io_rules.specs.declared.name.Lane.TheVariants as lane
use Rattle.io_rules.specs.declared.op.Op.{Op}
use Rattle.io_rules.specs.declared.op.Phase.{Phase}
use Rattle.io_rules.specs.declared.op.Phase.TheVariants as phase
use Rattle.io_rules.specs.declared.request.Marks.{Marks}
use Rattle.io_rules.specs.Names.{Names}
use Rattle.io_rules.specs.Ops.{is_ready, op_at, with_phase}
use Rattle.io_rules.specs.State.{ContextState}
use Rattle.io_rules.proofs.StageLemmas.{Stage, stage_of, staged}
use Rattle.io_rules.proofs.StrandLemmas.{by_test}
use Rattle.io_rules.proofs.TotalLemmas.{equal, sum_by-total, total, total-changed}
use Rattle.io_history.proofs.AtLemmas.{at-changed}
use Rattle.io_strands.specs.declared.ready.ReadyOp.{ReadyOp}
use Rattle.io_strands.specs.Cell.{Cell}
use Rattle.io_jobs.specs.Listed.{JobList}
use Rattle.io_queues.specs.Ordered.{Each, Rises}
use Rattle.io_queues.specs.Queued.{found_in}
use Rattle.io_queues.proofs.FoundLemmas.{each-in, found-in}
use Rattle.io_streams.specs.declared.pending.PendingOp.{PendingOp}
use Rattle.io_streams.specs.Pending.{Entry, item_put, op_of}
use Rattle.io_timers.specs.Pending.{Timers}
use Rattle.io_scheduler.specs.declared.counts.Counts.{Counts}
use Rattle.io_scheduler.specs.declared.streaming.Streaming.{Streaming}
use Rattle.io_scheduler.specs.declared.tally.Tally.{Tally}
use Rattle.io_scheduler.specs.declared.waiting.Waiting.{Waiting}
use Rattle.io_scheduler.specs.Ready.{own_ops}
use Rattle.io_scheduler.specs.Shown.{Shows, cell_at, lane_of_place, waits_own, waits_own_on}
use Rattle.io_scheduler.specs.Streams.{AreStreaming, IsStreamingAs}
use Rattle.io_scheduler.specs.Tallied.{IsTally}
use Rattle.io_scheduler.specs.Waits.{ArePending, ShowsWaits}
use Rattle.io_scheduler.proofs.BegunLemmas.{below_begun}
use Rattle.io_scheduler.proofs.CompletedLemmas.{keeps_completed}
use Rattle.io_scheduler.proofs.IdleLemmas.{idles, incomplete_total}
use Rattle.io_scheduler.proofs.ReadyLemmas.{ready-kept}
use Rattle.io_scheduler.proofs.SettledLemmas.{others_pending}
use Rattle.io_scheduler.proofs.SpareLemmas.{spares_changed}
use Rattle.io_scheduler.proofs.TallyLemmas.{tally_same_stages}
use Rattle.io_scheduler.proofs.TriedLemmas.{put_still}

some_is : {X : Type 0} (a b : X) → Some a ≡ Some b → a ≡ b
some_is a b is = cc

-- it has moved so many bytes, and was reached by a cancellation or not
abbrev pub going_on : ℕ → ℕ → Bool → ContextState → ContextState
going_on n moved marked s = record s { ops = with_phase n (phase.Pending moved marked) s.ops }

module _ (n moved : ℕ) (marked : Bool) (s : ContextState) (it : Op) (is : op_at s.ops n ≡ Some it) (was : ℕ) (cancelled : Bool)
    (pending : it.phase ≡ phase.Pending was cancelled) where
  -- a sum that knows no more than the stage
  same_total : (h : ℕ → Lane → Stage → ℕ) → total (staged h) (going_on n moved marked s).ops ≡ total (staged h) s.ops
  same_total h =
      let step = total-changed (staged h) n (λ o. phase.Pending moved marked) s.ops it is in
      let alike = ap (h it.number it.lane) (ap stage_of pending) in
      omega (arith, step, alike)

  pub on_shown : {H S : Type 0} (marks : H → Marks) (limits : Limits) (counts : Counts) (names : Names)
      (cells : List (Cell H S)) (jobs : JobList (ReadyOp H)) → Shows marks limits counts names cells jobs s →
      Shows marks limits counts names cells jobs (going_on n moved marked s)
  on_shown marks limits counts names cells jobs shows =
      let p : Phase = phase.Pending moved marked in
      let new = with_phase n p s.ops in
      let keeps = keeps_completed n p s.ops it is (ap is_ready pending) in
      let old_sum = sum_by-total waits_own s.ops in
      let new_sum = sum_by-total waits_own new in
      let step = total-changed waits_own n (λ o. p) s.ops it is in
      let before : waits_own it ≡ waits_own_on it.lane false = ap (λ q. waits_own_on it.lane (is_ready q)) pending in
      let all = shows.own_all in
      record {
        limits_are = shows.limits_are;
        counts_are = shows.counts_are;
        names_are = shows.names_are;
        below = below_begun s.next n (λ o. p) s.ops shows.below;
        spares = spares_changed s.names.strands n p s.ops shows.spares tt;
        strands = shows.strands;
        there = shows.there;
        rooms = shows.rooms;
        each = λ k. record {
          ready = ready-kept marks s.ops new (lane_of_place s.names.strands k) (cell_at cells k).queue keeps (shows.each k).ready;
          tied = (shows.each k).tied;
          idle = (shows.each k).idle;
        };
        listed = shows.listed;
        own = ready-kept marks s.ops new lane.Own (own_ops jobs.ring) keeps shows.own;
        own_all = omega (arith, all, old_sum, new_sum, step, before);
        own_room = shows.own_room;
        settled = shows.settled;
        going = shows.going;
      }

  pub on_tally : (t : Tally) → IsTally t s → IsTally t (going_on n moved marked s)
  on_tally t tally = tally_same_stages t s (going_on n moved marked s) tally same_total refl refl

  module _ {H : Type 0} (marks : H → Marks) (op : PendingOp (Streaming H)) (known : IsStreamingAs marks s.ops op)
      (here : op.op ≡ n) where
    pub on_waits : (limits : Limits) (timers : Timers (Waiting H)) → ShowsWaits marks limits timers s →
        ShowsWaits marks limits timers (going_on n moved marked s)
    on_waits limits timers shows =
        let all = shows.all in
        let before = incomplete_total s.ops in
        let behind = incomplete_total (going_on n moved marked s).ops in
        let alike = same_total idles in
        record {
          timers_are = shows.timers_are;
          places = shows.places;
          waits_are = shows.waits_are;
          rises = shows.rises;
          each = subst (λ k. ArePending marks (with_phase k (phase.Pending moved marked) s.ops) timers.waits) here
              (others_pending marks s.ops op known (phase.Pending moved marked) timers.waits shows.each);
          all = omega (arith, all, before, behind, alike);
          room = shows.room;
        }

    -- it with its new item, and the others as they were
    pub on_streaming : (place : ℕ) (item : Streaming H) (xs : List (Entry (PendingOp (Streaming H)))) → Rises op_of xs →
        Each (λ x. x.place ≡ place → x.item ≡ op) xs → found_in place xs ≡ Some op →
        IsStreamingAs marks (going_on n moved marked s).ops (record op { item = item }) → AreStreaming marks s.ops xs →
        AreStreaming marks (going_on n moved marked s).ops (map (item_put place item) xs)
    on_streaming place item xs rises at found new all =
        put_still marks (going_on n moved marked s).ops place item xs (news xs at) (others xs rises found all)
      where
        news : (ys : List (Entry (PendingOp (Streaming H)))) → Each (λ x. x.place ≡ place → x.item ≡ op) ys →
            Each (λ x. x.place ≡ place → IsStreamingAs marks (going_on n moved marked s).ops (record x.item { item = item })) ys
        news [] at = tt
        news (y ∷ ys) at = (
          λ is_here. subst (λ (x : PendingOp (Streaming H)). IsStreamingAs marks (going_on n moved marked s).ops (record x { item = item }))
              (sym (at.0 is_here)) new,
          news ys at.1,
        )

        still : (y : PendingOp (Streaming H)) → y.op ≢ n → IsStreamingAs marks s.ops y →
            IsStreamingAs marks (going_on n moved marked s).ops y
        still y other it = record {
          op = it.op;
          is = at-changed n y.op (λ o. phase.Pending moved marked) s.ops it.op (λ (same : n ≡ y.op). absurd (other (sym same))) it.is;
          lane = it.lane;
          binding = it.binding;
          kind = it.kind;
          target = it.target;
          given = it.given;
          phase = it.phase;
        }

        behind : (y : Entry (PendingOp (Streaming H))) (ys : List (Entry (PendingOp (Streaming H)))) → y.item.op ≡ n →
            Each (λ other. op_of y.item < op_of other.item) ys → AreStreaming marks s.ops ys →
            Each (λ x. x.place ≢ place → IsStreamingAs marks (going_on n moved marked s).ops x.item) ys
        behind y [] at less all = tt
        behind y (x ∷ ys) at less all = (
          λ elsewhere. let lt = less.0 in still x.item (λ (e : x.item.op ≡ n). omega (arith, lt, at, e)) all.0,
          behind y ys at less.1 all.1,
        )

        others : (ys : List (Entry (PendingOp (Streaming H)))) → Rises op_of ys → found_in place ys ≡ Some op →
            AreStreaming marks s.ops ys →
            Each (λ x. x.place ≢ place → IsStreamingAs marks (going_on n moved marked s).ops x.item) ys
        others [] rises found all = tt
        others (y ∷ ys) rises found all =
            by_test (y.place == place)
            (λ this.
            let one : y.item ≡ op = some_is y.item op (sym (ap (λ b. cond b (Some y.item) (found_in place ys)) this) ∙ found) in (
              λ elsewhere. absurd (elsewhere (equal y.place place this)),
              behind y ys (ap (λ (x : PendingOp (Streaming H)). x.op) one ∙ here) rises.0 all.1,
            ))
            (λ other.
            let rest = sym (ap (λ b. cond b (Some y.item) (found_in place ys)) other) ∙ found in
            let less = each-in (λ (x : Entry (PendingOp (Streaming H))). op_of y.item < op_of x.item)
            (record { place = place; item = op }) ys rises.0 (found-in place op ys rest) in (
              λ elsewhere. still y.item (λ (e : y.item.op ≡ n). omega (arith, less, here, e)) all.0,
              others ys rises.1 rest all.1,
            ))
