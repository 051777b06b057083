-- How streams are served one after another.
use Rattle.std.proofs.Common.{◌≡◌, ℕ, ◌<◌, ◌≤◌, Bool, true, false, Option, None, Some, List, length, map, refl, sym, ap, subst, ◌∙◌, arith}
use Rattle.std.specs.List.{slice_index_or}
use Rattle.std.specs.Option.{IfSome}
use Rattle.std.proofs.lemmas.List.{get_or-map, length-map, length-set}
use Rattle.std.proofs.lemmas.List.Sums.{get_or-le-sum_by, sum_by-set}
use Rattle.std.proofs.Math.Seq.{map-set_same}
use Rattle.history_rules.specs.Untold.{may_give_read, may_give_write}
use Rattle.reactor_trait.specs.Reactor.{Outside, ReactorState}
use Rattle.proactor_core.specs.Due.{Due}
use Rattle.proactor_core.specs.Reactor.{ChangesOne, IsServable, told_stream}
use Rattle.proactor_core.specs.Streams.{new_stream_view, pending_on, pending_in_all, stream_in, AreServable, IsServedAt, StreamView}
use Rattle.proactor_core.proofs.QueueLemmas.{gives-count}

told-below : (told : Option Outside) (number count : ℕ) → number < count →
    IfSome told (λ outside. length outside.streams ≡ count) → IfSome told (λ outside. number < length outside.streams)
told-below None number count below same = tt
told-below (Some outside) number count below same = omega arith

told-length : (told left : Option Outside) (number count more : ℕ) → count ≡ more → ChangesOne number told left →
    IfSome told (λ outside. length outside.streams ≡ count) → IfSome left (λ outside. length outside.streams ≡ more)
told-length None left number count more counts changes same =
    subst (λ (t : Option Outside). IfSome t (λ outside. length outside.streams ≡ more)) (sym changes) tt
told-length (Some outside) left number count more counts changes same =
    subst (λ (t : Option Outside). IfSome t (λ outside. length outside.streams ≡ more)) (sym changes)
    (length-set outside.streams number (told_stream left number) ∙ same ∙ counts)

abbrev is_closed_in : StreamView → Bool
is_closed_in view = view.closed

-- one of the streams
pub servable-at : (streams : List StreamView) (state : ReactorState) (told : Option Outside) (number : ℕ) →
    number < length streams → AreServable streams state told → (stream_in streams number).closed ≡ false →
    IsServable state told number
servable-at streams state told number within servable opened =
    let count = ap length servable.closed ∙ length-map streams is_closed_in in
    let at =
    ap (λ (closed : List Bool). slice_index_or closed number true) servable.closed
    ∙ get_or-map is_closed_in streams number (new_stream_view 0 0 0) true within in
    record {
      up = servable.up;
      known = omega arith;
      is_open = at ∙ opened;
      there = told-below told number (length streams) within servable.there;
    }

-- no more than all are pending in one of them
pub pending-at : (streams : List StreamView) (number : ℕ) → number < length streams →
    pending_on (stream_in streams number) ≤ pending_in_all streams
pending-at streams number within = get_or-le-sum_by pending_on streams number (new_stream_view 0 0 0) within

-- the streams are as many as before
pub count-served : (last : Bool) (number : ℕ) (old new : List StreamView) (told left : Option Outside)
    (due later : Due) → IsServedAt last number old new told left due later → length new ≡ length old
count-served last number old new told left due later served = ap length served.others ∙ length-set old number _

-- they may be served still
pub servable-served : (last : Bool) (number : ℕ) (old new : List StreamView) (state now : ReactorState)
    (told left : Option Outside) (due later : Due) → now ≡ state → AreServable old state told →
    IsServedAt last number old new told left due later → AreServable new now left
servable-served last number old new state now told left due later same servable served =
    let before = stream_in old number in
    let after = stream_in new number in
    let changed : StreamView = record before { held = after.held; reads = after.reads; writes = after.writes } in
    let closed =
    ap (map is_closed_in) served.others
    ∙ map-set_same is_closed_in old number changed (new_stream_view 0 0 0) refl in
    let is : AreServable new state left = record {
      up = servable.up;
      closed = servable.closed ∙ sym closed;
      there =
          told-length told left number (length old) (length new)
          (sym (count-served last number old new told left due later served)) served.changes servable.there;
    } in
    subst (λ (s : ReactorState). AreServable new s left) (sym same) is

-- there is room for all that is pending still
pub spare-served : (last : Bool) (number : ℕ) (old new : List StreamView) (told left : Option Outside)
    (due later : Due) → number < length old → pending_in_all old ≤ due.spare →
    IsServedAt last number old new told left due later → pending_in_all new ≤ later.spare
spare-served last number old new told left due later within room served =
    let before = stream_in old number in
    let after = stream_in new number in
    let changed : StreamView = record before { held = after.held; reads = after.reads; writes = after.writes } in
    let reads = served.gives.reads in
    let writes = served.gives.writes in
    let first = gives-count may_give_read before.reads after.reads reads.completed reads.in_order in
    let second = gives-count may_give_write before.writes after.writes writes.completed writes.in_order in
    let between = ap (λ (d : Due). d.spare) reads.due in
    let last = ap (λ (d : Due). d.spare) writes.due in
    let total = sum_by-set pending_on old number changed (new_stream_view 0 0 0) within in
    let same = ap pending_in_all served.others in
    let one = pending-at old number within in
    omega arith
