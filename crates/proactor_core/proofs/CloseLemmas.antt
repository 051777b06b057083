-- What closing a stream leaves: room, and the half of a history's state.
use Rattle.std.proofs.Common.{◌≡◌, ℕ, ◌+◌, ◌<◌, nat_lt, Bool, true, false, cond, List, [], ◌∷◌, ◌++◌, Option, Some, None, length, map, get_or, set, suc, inl, inr, refl, sym, ap, subst, ◌∙◌, arith}
use Rattle.std.specs.Bool.{IsTrue}
use Rattle.std.specs.Option.{IfSome, option_map}
use Rattle.std.proofs.lemmas.Bool.{cases_eq}
use Rattle.std.proofs.lemmas.List.{get_or-map, get_or-set_other, get_or-set_same, length-map, length-set, map-set}
use Rattle.asio_types.specs.declared.world.Line.{Line}
use Rattle.stream_rules.specs.declared.queue.Completion.{Completion}
use Rattle.stream_rules.specs.Queue.{Pending}
use Rattle.stream_rules.specs.Serving.{Reading, Writing}
use Rattle.stream_rules.specs.Stream.{Stream, closed_stream, new_stream}
use Rattle.stream_rules.specs.World.{changed_at, lines_after, stream_at}
use Rattle.history_rules.specs.Performing.{aborted, all_of_stream, closed_at, queues_at, shut_at, with_writes}
use Rattle.history_rules.specs.State.{ReactorHalf, StreamQueues, no_queues}
use Rattle.reactor_trait.specs.Reactor.{Outside, ReactorState, outside_closed, state_closed}
use Rattle.proactor_core.specs.Due.{listed}
use Rattle.proactor_core.specs.Proactor.{IsAt, IsTurning, ProactorView}
use Rattle.proactor_core.specs.Streams.{StreamView, closed_view, new_stream_view, queues_in, stream_in}
use Rattle.proactor_core.proofs.ServedLemmas.{KeepsPlace}
use Rattle.proactor_core.proofs.StreamStepLemmas.{shrunk-room}
use Rattle.proactor_core.proofs.TickLemmas.{Tells, tells-at}
use Rattle.proactor_core.proofs.WorksLemmas.{follow}

with-step : (accepted k : ℕ) (read : Completion) (later : List (Pending Writing) → List Completion)
    (w : Pending Writing) (ws : List (Pending Writing)) (first : Bool) →
    length (later (w ∷ ws)) ≡ k + length (w ∷ ws) → length (with_writes accepted read later ws) ≡ suc k + length ws →
    length (cond first (read ∷ later (w ∷ ws)) (aborted w.op w.moved ∷ with_writes accepted read later ws))
    ≡ suc k + length (w ∷ ws)
with-step accepted k read later w ws true all rest = omega arith
with-step accepted k read later w ws false all rest = omega arith

with-count : (accepted k : ℕ) (read : Completion) (later : List (Pending Writing) → List Completion) →
    ((ws : List (Pending Writing)) → length (later ws) ≡ k + length ws) → (ws : List (Pending Writing)) →
    length (with_writes accepted read later ws) ≡ suc k + length ws
with-count accepted k read later counts [] = let rest = counts [] in omega arith
with-count accepted k read later counts (w ∷ ws) =
    with-step accepted k read later w ws (nat_lt accepted w.accepted) (counts (w ∷ ws))
    (with-count accepted k read later counts ws)

-- closing cancels each operation once
closed-count : (reads : List (Pending Reading)) (writes : List (Pending Writing)) →
    length (all_of_stream reads writes) ≡ length reads + length writes
closed-count [] writes =
    let all = length-map writes (λ (pending : Pending Writing). aborted pending.op pending.moved) in omega arith
closed-count (read ∷ reads) writes =
    let all =
    with-count read.accepted (length reads) (aborted read.op read.moved) (all_of_stream reads) (closed-count reads) writes in
    omega arith

closed-keeps : (v : StreamView) → KeepsPlace v (closed_view v)
closed-keeps v = record {
  reads = omega arith;
  writes = omega arith;
  reads_room = refl;
  writes_room = refl;
  room = refl;
}

abbrev is_closed_in : StreamView → Bool
is_closed_in view = view.closed

tells-closed : (n : ℕ) (first : Option Outside) (views : List StreamView) (all : List Stream) (lines : List Line) →
    n < length views → Tells first views all lines →
    Tells (option_map (outside_closed n) first) (set views n (closed_view (stream_in views n)))
    (changed_at n closed_stream all) lines
tells-closed n None views all lines within tells =
    let count = length-set views n (closed_view (stream_in views n)) in
    record {
      count = length-set all n (closed_stream (stream_at all n)) ∙ tells.count ∙ sym count;
      told_count = tt;
      bytes = λ m b. tt;
      to_come = tt;
    }
tells-closed n (Some outside) views all lines within tells =
    let long : length outside.streams ≡ length views = tells.told_count in
    let v = closed_view (stream_in views n) in
    let count = length-set views n v in
    let gone = closed_stream (stream_at all n) in
    let shut = closed_stream (stream_at outside.streams n) in
    record {
      count = length-set all n gone ∙ tells.count ∙ sym count;
      told_count = length-set outside.streams n shut ∙ long ∙ sym count;
      bytes = λ m b. elim (cases_eq m n) [
        | inl same ↦
            let here : stream_at (set all n gone) n ≡ gone =
            get_or-set_same all n gone new_stream (omega (arith, within, tells.count)) in
            let there : stream_at (set outside.streams n shut) n ≡ shut =
            get_or-set_same outside.streams n shut new_stream (omega (arith, within, long)) in
            let view : stream_in (set views n v) n ≡ v = get_or-set_same views n v (new_stream_view 0 0 0) within in
            subst
            (λ k.
            stream_at (set all n gone) k
            ≡ whole (stream_in (set views n v) k).held (stream_at (set outside.streams n shut) k)) (sym same)
            (here ∙ ap closed_stream (tells.bytes n within) ∙ ap (whole []) (sym there)
            ∙ ap (λ (w : StreamView). whole w.held (stream_at (set outside.streams n shut) n)) (sym view))
        | inr ne ↦
            get_or-set_other all n m gone new_stream ne ∙ tells.bytes m (omega (arith, b, count))
            ∙ ap (whole (stream_in views m).held) (sym (get_or-set_other outside.streams n m shut new_stream ne))
            ∙ ap (λ (w : StreamView). whole w.held (stream_at (set outside.streams n shut) m))
            (sym (get_or-set_other views n m v (new_stream_view 0 0 0) ne))
      ];
      to_come = tells.to_come;
    }
  where
    whole : List ℕ → Stream → Stream
    whole held s = record s { arrived = held ++ s.arrived }

-- a stream was closed, which was open
abbrev pub closed_in : {X : Type 0} → ℕ → X → ProactorView X → ProactorView X
closed_in n reactor view =
    let v = stream_in view.streams n in
    record view {
      tables = record view.tables { due = listed (all_of_stream v.reads v.writes) view.tables.due };
      streams = set view.streams n (closed_view v);
      reactor = reactor;
    }

module _ {X : Type 0} (state : X → ReactorState) (told : X → Option Outside) (view : ProactorView X) (n : ℕ)
    (reactor : X) (within : n < length view.streams) where
  pub close-turning : state reactor ≡ state_closed n (state view.reactor) →
      told reactor ≡ option_map (outside_closed n) (told view.reactor) → IsTurning state told view →
      IsTurning state told (closed_in n reactor view)
  close-turning closes told_closes turning =
      let v = stream_in view.streams n in
      let servable = turning.step.servable in
      let count = length-set view.streams n (closed_view v) in
      record {
        room =
            shrunk-room view.script view.tables view.streams n (closed_view v) (all_of_stream v.reads v.writes) within
            (closed-keeps v) (let all = closed-count v.reads v.writes in omega arith) turning.room;
        step = record {
          now = ap (λ (t : ReactorState). t.now) closes ∙ turning.step.now;
          times = ap (λ (t : ReactorState). t.times) closes ∙ turning.step.times;
          last = ap (λ (t : ReactorState). t.last) closes ∙ turning.step.last;
          servable = record {
            up = subst (λ (t : ReactorState). IsTrue t.up) (sym closes) servable.up;
            closed =
                ap (λ (t : ReactorState). t.closed) closes ∙ ap (λ (c : List Bool). set c n true) servable.closed
                ∙ sym (map-set is_closed_in view.streams n (closed_view v));
            there =
                subst
                (λ (t : Option Outside).
                IfSome t (λ outside. length outside.streams ≡ length (set view.streams n (closed_view v))))
                (sym told_closes)
                (there-closed (told view.reactor) (length view.streams) (length (set view.streams n (closed_view v)))
                (sym count) servable.there);
          };
        };
      }
    where
      there-closed : (first : Option Outside) (before after : ℕ) → before ≡ after →
          IfSome first (λ outside. length outside.streams ≡ before) →
          IfSome (option_map (outside_closed n) first) (λ outside. length outside.streams ≡ after)
      there-closed None before after same there = tt
      there-closed (Some outside) before after same there =
          length-set outside.streams n (closed_stream (stream_at outside.streams n)) ∙ there ∙ same

  pub close-step : (half : ReactorHalf) → told reactor ≡ option_map (outside_closed n) (told view.reactor) →
      IsAt told view half → IsAt told (closed_in n reactor view) (shut_at n half)
  close-step half told_closes is =
      let streams = changed_at n closed_stream half.streams in
      let views = (closed_in n reactor view).streams in
      let lines = lines_after view.tables.time view.script.world.lines in
      let tells =
      tells-closed n (told view.reactor) view.streams half.streams lines within (tells-at told view reactor half is) in
      let left = subst (λ (t : Option Outside). Tells t views streams lines) (sym told_closes) tells in
      let step = (follow view.tables view.streams half).close n within ∙ ap (shut_at n) is.works in
      subst (IsAt told (closed_in n reactor view)) step (record {
        works = refl;
        count = left.count;
        told_count = left.told_count;
        bytes = left.bytes;
        lines = left.to_come;
      })

-- whether a stream is closed in the half
pub closed-there : {X : Type 0} (told : X → Option Outside) (view : ProactorView X) (half : ReactorHalf) (n : ℕ) →
    n < length view.streams → IsAt told view half → (queues_at half n).closed ≡ (stream_in view.streams n).closed
closed-there told view half n within is =
    let queued : half.queues ≡ map queues_in view.streams = sym (ap (λ (h : ReactorHalf). h.queues) is.works) in
    ap (λ (qs : List StreamQueues). (get_or qs n no_queues).closed) queued
    ∙ ap (λ (q : StreamQueues). q.closed) (get_or-map queues_in view.streams n (new_stream_view 0 0 0) no_queues within)

-- a close of an open stream
pub shuts : {X : Type 0} (told : X → Option Outside) (view : ProactorView X) (half : ReactorHalf) (n : ℕ) →
    n < length view.streams → (stream_in view.streams n).closed ≡ false → IsAt told view half →
    closed_at n half ≡ shut_at n half
shuts told view half n within opened is =
    ap (λ t. cond t half (shut_at n half)) (closed-there told view half n within is ∙ opened)

-- and of one that is closed
pub shut-before : {X : Type 0} (told : X → Option Outside) (view : ProactorView X) (half : ReactorHalf) (n : ℕ) →
    n < length view.streams → (stream_in view.streams n).closed ≡ true → IsAt told view half → closed_at n half ≡ half
shut-before told view half n within closed is =
    ap (λ t. cond t half (shut_at n half)) (closed-there told view half n within is ∙ closed)
