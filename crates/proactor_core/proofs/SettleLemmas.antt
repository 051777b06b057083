-- What a turn of the reactor leaves: room, and the half of a history's state.
use Rattle.std.proofs.Common.{◌≡◌, ℕ, ◌+◌, ◌<◌, ◌≤◌, nat_le, Bool, true, false, not, zero, suc, List, Option, length, map, filter, refl, sym, ap, subst, ◌∙◌, arith}
use Rattle.std.specs.List.{All}
use Rattle.std.specs.Prelude.{count_by}
use Rattle.std.proofs.lemmas.List.{get_or_default, length-append, length-map}
use Rattle.std.proofs.lemmas.List.Elements.{All-map}
use Rattle.std.proofs.lemmas.List.Filters.{length-filter_both}
use Rattle.std.proofs.lemmas.Bool.Decides.{nat_tests}
use Rattle.session_script.specs.Script.{ScriptModel}
use Rattle.stream_rules.specs.declared.queue.Completion.{Completion}
use Rattle.stream_rules.specs.Stream.{Stream}
use Rattle.stream_rules.specs.World.{lines_after}
use Rattle.history_rules.specs.Settling.{served_at, served_below, settled, sorted_by, waited, with_waits_served}
use Rattle.history_rules.specs.State.{ReactorHalf, StreamQueues}
use Rattle.history_rules.specs.declared.wait.Wait.{Wait}
use Rattle.history_rules.specs.Waits.{expiry_in}
use Rattle.history_rules.proofs.PerformingLemmas.{All-passing}
use Rattle.reactor_trait.specs.Reactor.{Outside, ReactorState}
use Rattle.proactor_core.specs.Due.{Due}
use Rattle.proactor_core.specs.Untold.{AreGivenBelow, AreUnderWay, turned}
use Rattle.proactor_core.specs.Proactor.{FollowsUntold, FollowsUntoldInTurn, HasRoomForActs, IsAt, IsSound, IsTurning, ProactorView}
use Rattle.proactor_core.specs.Reactor.{tells}
use Rattle.proactor_core.specs.Streams.{AreServable, AreServedBelow, StreamView, new_stream_view, pending_in_all, queues_in, stream_in}
use Rattle.proactor_core.specs.StreamsFollowing.{AreStreamsOf}
use Rattle.proactor_core.specs.Tables.{TableState, waits_completed}
use Rattle.proactor_core.specs.Waits.{expired, has_expired}
use Rattle.proactor_core.specs.Works.{with_works}
use Rattle.proactor_core.proofs.FollowingLemmas.{follows}
use Rattle.proactor_core.proofs.RoomLemmas.{keeps-room}
use Rattle.proactor_core.proofs.ServedLemmas.{Serves, drained-all, serves, tells-served}
use Rattle.proactor_core.proofs.SortingLemmas.{length-sorted_by}
use Rattle.proactor_core.proofs.StreamsFollowingLemmas.{streams-follow}
use Rattle.proactor_core.proofs.TellsLemmas.{if-count, if-untold, is-told, known-told, some-count}
use Rattle.proactor_core.proofs.UntoldSettleLemmas.{untold-settles}
use Rattle.proactor_core.proofs.UntoldStreamLemmas.{streams-give-below}

-- there is room for the waits that complete
pub complete-room : (script : ScriptModel) (s : TableState) (streams : List StreamView) →
    HasRoomForActs script s streams → HasRoomForActs script (waits_completed s) streams
complete-room script s streams room =
    let test : Wait → Bool = has_expired s.time s.waiting.expiries in
    let key : Wait → ℕ = expiry_in s.waiting.expiries in
    let count =
    length-map (sorted_by key (filter test s.waiting.waits)) waited
    ∙ length-sorted_by key (filter test s.waiting.waits) in
    let long = length-append s.due.coming (expired s.time s.waiting) in
    let fewer = length-filter_both test (λ wait. not (test wait)) (λ wait. refl) s.waiting.waits in
    let spare = room.tables.spare in
    let due = room.within.due in
    record {
      fit = room.fit;
      tables = (keeps-room script (pending_in_all streams) s room.tables).complete;
      queues = room.queues;
      connected = room.connected;
      within = record { due = omega arith; now = room.within.now; expiries = room.within.expiries };
      working = room.working;
    }

-- the waits that are left have not expired
left-ahead : (s : TableState) →
    All (λ (wait : Wait). s.time < expiry_in s.waiting.expiries wait) (waits_completed s).waiting.waits
left-ahead s =
    All-passing (λ wait. not (has_expired s.time s.waiting.expiries wait)) (λ wait. Unit {0})
    (λ wait. s.time < expiry_in s.waiting.expiries wait) s.waiting.waits
    (λ wait any late. ahead s.time (expiry_in s.waiting.expiries wait) late) (λ k d b. tt)
  where
    ahead : (now expiry : ℕ) → not (nat_le expiry now) ≡ true → now < expiry
    ahead now expiry late = grind (arith, nat_tests, late)

-- and for what the streams give
served-room : (script : ScriptModel) (s : TableState) (old new : List StreamView) (told left : Option Outside)
    (later : Due) → HasRoomForActs script s old → Serves old new told left s.due later →
    HasRoomForActs script (record s { due = later }) new
served-room script s old new told left later room serves =
    let fit = room.fit in
    let tables = room.tables in
    let spare = tables.spare in
    let most = room.within.due in
    let counts = serves.count in
    record {
      fit =
          record {
            most = fit.most;
            few = omega (arith, counts, fit.few);
            taken = fit.taken;
            expiries = fit.expiries;
            slots = fit.slots;
            guards = fit.guards;
            streams = counts ∙ fit.streams;
          };
      tables = record {
        acts = tables.acts;
        waits_taken = tables.waits_taken;
        rooms = tables.rooms;
        counted = tables.counted;
        accepted = tables.accepted;
        spare = let left = serves.pending (length s.waiting.waits + count_by not s.taken) (omega arith) in omega arith;
      };
      queues = record {
        reads = λ n b.
            let keeps = serves.views n in
            let room = room.queues.reads n (omega (arith, b, counts)) in
            omega (arith, keeps.reads, keeps.reads_room, room);
        writes = λ n b.
            let keeps = serves.views n in
            let room = room.queues.writes n (omega (arith, b, counts)) in
            omega (arith, keeps.writes, keeps.writes_room, room);
        sizes = λ a n act b is.
            let keeps = serves.views n in
            let room = room.queues.sizes a n act (omega (arith, b, counts)) is in omega (arith, keeps.room, room);
      };
      connected = room.connected;
      within =
          record {
            due = serves.within (length script.acts) (omega arith) most;
            now = room.within.now;
            expiries = room.within.expiries;
          };
      working = room.working;
    }

-- a proactor whose streams were served
abbrev pub after_serving : {X : Type 0} → ProactorView X → List StreamView → X → Due → ProactorView X
after_serving view new reactor later = record view {
  tables = record (waits_completed view.tables) { due = later };
  streams = new;
  reactor = reactor;
}

pub all-under-way : (streams : List StreamView) →
    ((n : ℕ) → n < length streams → AreUnderWay (queues_in (stream_in streams n))) →
    All AreUnderWay (map queues_in streams)
all-under-way streams each =
    All-map AreUnderWay queues_in streams (λ k d b.
    subst (λ (v : StreamView). AreUnderWay (queues_in v)) (get_or_default streams k (new_stream_view 0 0 0) d b)
    (each k b))

-- serving streams changes them, their queues and what is due
abbrev half_with : ReactorHalf → List Stream → List StreamQueues → List Completion → ReactorHalf
half_with r streams queues due = record r { streams = streams; queues = queues; due = due }

below-keeps : (n : ℕ) (r : ReactorHalf) →
    served_below n r ≡ half_with r (served_below n r).streams (served_below n r).queues (served_below n r).due
below-keeps zero r = refl
below-keeps (suc n) r =
    let last = served_at n (served_below n r) in
    ap (λ (h : ReactorHalf). half_with h last.streams last.queues last.due) (below-keeps n r)

abbrev whole_turn_of : ReactorHalf → ReactorHalf
whole_turn_of r = record r { whole_turn = true; reached = 0 }

module _ {X : Type 0} (state : X → ReactorState) (told : X → Option Outside) (view : ProactorView X)
    (new : List StreamView) (reactor : X) (later : Due) (last : Bool)
    (served : AreServedBelow last (length view.streams) view.streams new (told view.reactor) (told reactor)
    (waits_completed view.tables).due later) where
  pub settles-soundly : last ≡ (state view.reactor).last → state reactor ≡ state view.reactor →
      IsTurning state told view → IsSound state told (after_serving view new reactor later)
  settles-soundly is_last same turning =
      let serving = serves (omega arith) served in
      record {
        turning = record {
          room =
              served-room view.script (waits_completed view.tables) view.streams new (told view.reactor) (told reactor)
              later (complete-room view.script view.tables view.streams turning.room) serving;
          step = record {
            now = ap (λ (t : ReactorState). t.now) same ∙ turning.step.now;
            times = ap (λ (t : ReactorState). t.times) same ∙ turning.step.times;
            last = ap (λ (t : ReactorState). t.last) same ∙ turning.step.last;
            servable =
                serving.servable (state reactor)
                (subst (λ (t : ReactorState). AreServable view.streams t (told view.reactor)) (sym same)
                turning.step.servable);
          };
        };
        ahead = left-ahead view.tables;
        drained = λ over.
            drained-all last view.streams new (told view.reactor) (told reactor) (waits_completed view.tables).due later
            served (is_last ∙ turning.step.last ∙ over);
      }

  pub settles-following : (half : ReactorHalf) → tells (told view.reactor) ≡ true → IsAt told view half →
      IsAt told (after_serving view new reactor later) (settled true half)
  settles-following half telling is =
      let s = view.tables in
      let first = waits_completed s in
      let after : TableState = record first { due = later } in
      let begun = whole_turn_of (with_waits_served half) in
      let waits = (follows view.script s (with_works s view.streams half)).settle ∙ ap with_waits_served is.works in
      let works : with_works first view.streams begun ≡ begun =
      subst (λ (h : ReactorHalf). with_works first view.streams h ≡ h) (ap whole_turn_of waits) refl in
      let queued : half.queues ≡ map queues_in view.streams = sym (ap (λ (h : ReactorHalf). h.queues) is.works) in
      let are : AreStreamsOf begun view.streams (told view.reactor) first.due = record {
        queues = queued;
        count = is.count;
        told_count = some-count (told view.reactor) (length view.streams) telling is.told_count;
        bytes = λ number b. is-told (told view.reactor) telling (is.bytes number b);
        coming = sym (ap (λ (h : ReactorHalf). h.due) works);
      } in
      let n : ℕ = length view.streams in
      let left =
      streams-follow last begun view.streams new (told view.reactor) (told reactor) first.due later are served in
      let half_served = served_below n begun in
      let keeps = below-keeps n begun in
      let serving = serves (omega arith) served in
      let at : IsAt told (after_serving view new reactor later) half_served = record {
        works =
            ap (with_works after new) keeps
            ∙ ap (λ (h : ReactorHalf). half_with h half_served.streams (map queues_in new) later.coming) works
            ∙ ap (λ q. half_with begun half_served.streams q later.coming) (sym left.queues)
            ∙ ap (λ d. half_with begun half_served.streams half_served.queues d) (sym left.coming)
            ∙ sym keeps;
        count = left.count;
        told_count = if-count (told reactor) (length new) left.told_count;
        bytes = λ number b. known-told (told reactor) (left.bytes number b);
        lines = serving.lines (lines_after s.time view.script.world.lines) is.lines;
      } in
      let number : length half.queues ≡ n = ap length queued ∙ length-map view.streams queues_in in
      subst (λ m. IsAt told (after_serving view new reactor later) (served_below m begun)) (sym number) at

  -- over a reactor that tells nothing the proactor knows what the streams gave
  pub settles-untold : (half : ReactorHalf) → tells (told view.reactor) ≡ false → All AreUnderWay (map queues_in new) →
      FollowsUntoldInTurn told view half →
      FollowsUntold told (after_serving view new reactor later) (settled false half)
  settles-untold half telling under_way un =
      let mid = un.mid in
      let is = un.is_at in
      let s = view.tables in
      let first = waits_completed s in
      let after : TableState = record first { due = later } in
      let begun = whole_turn_of (with_waits_served mid) in
      let waits = (follows view.script s (with_works s view.streams mid)).settle ∙ ap with_waits_served is.works in
      let works : with_works first view.streams begun ≡ begun =
      subst (λ (h : ReactorHalf). with_works first view.streams h ≡ h) (ap whole_turn_of waits) refl in
      let queued : mid.queues ≡ map queues_in view.streams = sym (ap (λ (h : ReactorHalf). h.queues) is.works) in
      let coming : first.due.coming ≡ (with_waits_served mid).due = ap (λ (h : ReactorHalf). h.due) works in
      let n : ℕ = length view.streams in
      let given =
      streams-give-below last n view.streams new (told view.reactor) (told reactor) first.due later (omega arith) served in
      let gives : AreGivenBelow n mid.queues (map queues_in new) (with_waits_served mid).due later.coming =
      subst (λ (q : List StreamQueues). AreGivenBelow n q (map queues_in new) (with_waits_served mid).due later.coming)
      (sym queued)
      (subst (λ (d : List Completion). AreGivenBelow n (map queues_in view.streams) (map queues_in new) d later.coming)
      coming given) in
      let none : tells (told reactor) ≡ false = tells-served served ∙ telling in
      let counts = (serves (omega arith) served).count in
      record {
        mid = turned mid.streams (map queues_in new) later.coming 0 mid;
        is_at = record {
          works = ap (λ (h : ReactorHalf). half_with h mid.streams (map queues_in new) later.coming) works;
          count = is.count ∙ sym counts;
          told_count = if-untold _ (told reactor) none;
          bytes = λ number b. if-untold _ (told reactor) none;
          lines = if-untold _ (told reactor) none;
        };
        untold =
            untold-settles view.script mid half n 0 mid.streams (map queues_in new) later.coming un.unserved gives under_way;
      }

-- there is room for what the streams give
pub serving-spare : (script : ScriptModel) (s : TableState) (streams : List StreamView) →
    HasRoomForActs script s streams → pending_in_all streams ≤ (waits_completed s).due.spare
serving-spare script s streams room =
    let left = (complete-room script s streams room).tables.spare in
    omega arith
