-- Serving the streams one after another is what a history says of the reactor's half.
use Rattle.std.proofs.Common.{◌≡◌, ◌≢◌, add-one, get_or, ℕ, ◌<◌, ◌≤◌, Bool, Option, None, Some, List, ◌++◌, length, map, set, inl, inr, refl, sym, ap, subst, ◌∙◌, arith}
use Rattle.std.specs.Option.{option_map}
use Rattle.std.proofs.lemmas.Bool.{cases_lt}
use Rattle.std.proofs.lemmas.List.{get_or-map, get_or-set_other, get_or-set_same, length-set, map-set}
use Rattle.stream_rules.specs.declared.queue.Completion.{Completion}
use Rattle.stream_rules.specs.Stream.{Stream, new_stream}
use Rattle.stream_rules.specs.World.{stream_at}
use Rattle.history_rules.specs.Performing.{queues_at}
use Rattle.history_rules.specs.Settling.{served_at, served_below, served_stream, StreamServed}
use Rattle.history_rules.specs.State.{ReactorHalf, StreamQueues, no_queues}
use Rattle.reactor_trait.specs.Reactor.{Outside}
use Rattle.proactor_core.specs.Due.{Due}
use Rattle.proactor_core.specs.Reactor.{told_stream, whole_told, ChangesOne}
use Rattle.proactor_core.specs.Streams.{new_stream_view, none_served, one_served, queues_in, stream_in, AreServedBelow, IsServedAt, StreamView}
use Rattle.proactor_core.specs.StreamsFollowing.{AreStreamsOf, StreamsFollow}
use Rattle.proactor_core.proofs.ServingLemmas.{count-served}

served-same : (s w : Stream) (q v : StreamQueues) → s ≡ w → q ≡ v → served_stream s q ≡ served_stream w v
served-same s w q v e f = rw (e, f)

-- what a stream is in the half, once one of them was served
streams-after : (half : ReactorHalf) (old new : List StreamView) (outside : Outside) (left : Option Outside)
    (number : ℕ) (y : StreamView) (changed : Stream) → new ≡ set old number y →
    ChangesOne number (Some outside) left → number < length half.streams →
    changed ≡ whole_told (stream_in new number).held left number →
    ((n : ℕ) → n < length old → stream_at half.streams n ≡ whole_told (stream_in old n).held (Some outside) n) →
    (n : ℕ) → n < length old → stream_at (set half.streams number changed) n ≡ whole_told (stream_in new n).held left n
streams-after half old new outside left number y changed others changes within is bytes n below =
    let wanted : ℕ → Type 0 = λ k.
    stream_at (set half.streams number changed) k ≡ whole_told (stream_in new k).held left k in
    let other : n ≢ number → wanted n = λ ne.
    let kept = get_or-set_other half.streams number n changed new_stream ne in
    let view = ap (λ vs. stream_in vs n) others ∙ get_or-set_other old number n y (new_stream_view 0 0 0) ne in
    let told =
    ap (λ t. told_stream t n) changes
    ∙ get_or-set_other outside.streams number n (told_stream left number) new_stream ne in
    let whole = λ (v : StreamView) (s : Stream). let w : Stream = record s { arrived = v.held ++ s.arrived } in w in
    kept ∙ bytes n below ∙ ap (λ v. whole v (stream_at outside.streams n)) (sym view)
    ∙ ap (λ s. whole (stream_in new n) s) (sym told) in
    elim (cases_lt n number) [
      | inl less ↦ other (λ same. absurd (omega arith))
      | inr more ↦ elim (cases_lt number n) [
        | inl above ↦ other (λ same. absurd (omega arith))
        | inr least ↦
            let same : n ≡ number = omega arith in
            subst wanted (sym same) (get_or-set_same half.streams number changed new_stream within ∙ is)
      ]
    ]

-- one stream is served
served-follows : (last : Bool) (number : ℕ) (half : ReactorHalf) (old new : List StreamView)
    (told left : Option Outside) (due later : Due) → number < length old → AreStreamsOf half old told due →
    IsServedAt last number old new told left due later → AreStreamsOf (served_at number half) new left later
served-follows last number half old new None left due later within are at = absurd (cc)
served-follows last number half old new (Some outside) left due later within are at =
    let before = stream_in old number in
    let after = stream_in new number in
    let y : StreamView = record before { held = after.held; reads = after.reads; writes = after.writes } in
    let there = whole_told before.held (Some outside) number in
    let by_rules = served_stream there (queues_in before) in
    let queued =
    ap (λ (qs : List StreamQueues). get_or qs number no_queues) are.queues
    ∙ get_or-map queues_in old number (new_stream_view 0 0 0) no_queues within in
    let same =
    served-same (stream_at half.streams number) there (queues_at half number) (queues_in before)
    (are.bytes number within) queued in
    let served = served_stream (stream_at half.streams number) (queues_at half number) in
    let is = at.served in
    let view = ap (λ vs. stream_in vs number) at.others ∙ get_or-set_same old number y (new_stream_view 0 0 0) within in
    let counted = count-served last number old new (Some outside) left due later at in
    let told_same : length outside.streams ≡ length old = cc in
    let stream_is = ap (λ (s : StreamServed). s.stream) same ∙ sym is.stream in
    let queues_is = ap (λ (s : StreamServed). s.queues) same ∙ sym is.queues in
    record {
      queues =
          ap (λ q. set half.queues number q) queues_is ∙ ap (λ qs. set qs number (queues_in after)) are.queues
          ∙ ap (λ v. set (map queues_in old) number (queues_in v)) view ∙ sym (map-set queues_in old number y)
          ∙ sym (ap (map queues_in) at.others);
      count = length-set half.streams number served.stream ∙ are.count ∙ sym counted;
      told_count =
          ap (option_map (λ (o : Outside). length o.streams)) at.changes
          ∙ ap Some (length-set outside.streams number (told_stream left number) ∙ told_same ∙ sym counted);
      bytes = λ n below.
          streams-after half old new outside left number y served.stream at.others at.changes
          (omega (arith, are.count, within)) stream_is are.bytes n (omega (arith, below, counted));
      coming =
          ap (λ (cs : List Completion). half.due ++ cs) (ap (λ (s : StreamServed). s.completed) same)
          ∙ ap (λ (ds : List Completion). ds ++ by_rules.completed) are.coming
          ∙ sym (ap (λ (d : Due). d.coming) is.due);
    }

-- what the first streams leave, and that they are as many
record Below (number : ℕ) (half : ReactorHalf) (old new : List StreamView) (left : Option Outside) (later : Due)
    : Type 0 where
  are : AreStreamsOf (served_below number half) new left later
  counted : length new ≡ length old

follows-below : {last : Bool} {number : ℕ} {old new : List StreamView} {told left : Option Outside} {due later : Due}
    (half : ReactorHalf) → number ≤ length old → AreStreamsOf half old told due →
    AreServedBelow last number old new told left due later → Below number half old new left later
follows-below half few are none_served = record { are = are; counted = refl }
follows-below {last = last} half few are (one_served {number = number} {old = old} {new = new} {told = told}
    {left = left} {due = due} {later = later} before at) =
    let below = follows-below half (omega arith) are before in
    let within : number < length old = omega (arith, below.counted, few) in
    let step = served-follows last number (served_below number half) old new told left due later within below.are at in
    record { are = rw add-one step; counted = count-served last number old new told left due later at ∙ below.counted }

pub streams-follow : StreamsFollow
streams-follow last half old new told left due later are served = (follows-below half (omega arith) are served).are
