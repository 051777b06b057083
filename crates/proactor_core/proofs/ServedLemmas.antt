-- What serving all streams leaves as it was, and the room that it leaves.
use Rattle.std.proofs.Common.{◌≡◌, ℕ, ◌+◌, ◌<◌, ◌≤◌, Bool, true, List, Option, Some, None, length, set, inl, inr, refl, sym, ap, subst, ◌∙◌, arith}
use Rattle.std.specs.List.{All}
use Rattle.std.specs.Option.{IfSome}
use Rattle.std.proofs.lemmas.Bool.{cases_eq}
use Rattle.std.proofs.lemmas.List.{get_or_default, get_or-set_other, get_or-set_same, length-append}
use Rattle.std.proofs.lemmas.List.Sums.{sum_by-set}
use Rattle.asio_types.specs.declared.world.Line.{Line}
use Rattle.history_rules.specs.Rounds.{IsEmptied}
use Rattle.history_rules.specs.Untold.{may_give_read, may_give_write}
use Rattle.reactor_trait.specs.Reactor.{Outside, ReactorState}
use Rattle.proactor_core.specs.Due.{Due}
use Rattle.proactor_core.specs.Reactor.{ChangesOne, tells}
use Rattle.proactor_core.specs.Streams.{new_stream_view, none_served, one_served, pending_on, pending_in_all, queues_in, stream_in, AreServable, AreServedBelow, IsServedAt, StreamView}
use Rattle.proactor_core.proofs.QueueLemmas.{gives-count}
use Rattle.proactor_core.proofs.ServingLemmas.{count-served, pending-at, servable-served}
use Rattle.proactor_core.proofs.TellsLemmas.{tells-changed}

-- a stream has no more operations than before, in the same room
pub record KeepsPlace (before after : StreamView) : Type 0 where
  pub reads : length after.reads ≤ length before.reads
  pub writes : length after.writes ≤ length before.writes
  pub reads_room : after.reads_room ≡ before.reads_room
  pub writes_room : after.writes_room ≡ before.writes_room
  pub room : after.room ≡ before.room

keeps-itself : (view : StreamView) → KeepsPlace view view
keeps-itself view = record {
  reads = omega arith;
  writes = omega arith;
  reads_room = refl;
  writes_room = refl;
  room = refl;
}

keeps-both : (a b c : StreamView) → KeepsPlace a b → KeepsPlace b c → KeepsPlace a c
keeps-both a b c one two =
    let reads = one.reads in
    let more = two.reads in
    let writes = one.writes in
    let others = two.writes in
    record {
      reads = omega arith;
      writes = omega arith;
      reads_room = two.reads_room ∙ one.reads_room;
      writes_room = two.writes_room ∙ one.writes_room;
      room = two.room ∙ one.room;
    }

-- where one stream changed
pub keeps-at : (old new : List StreamView) (number : ℕ) (changed : StreamView) → number < length old →
    new ≡ set old number changed → KeepsPlace (stream_in old number) changed → (n : ℕ) →
    KeepsPlace (stream_in old n) (stream_in new n)
keeps-at old new number changed within is keeps n =
    elim (cases_eq n number) [
      | inl same ↦
          let here : stream_in new number ≡ changed =
          ap (λ vs. stream_in vs number) is ∙ get_or-set_same old number changed (new_stream_view 0 0 0) within in
          subst (λ m. KeepsPlace (stream_in old m) (stream_in new m)) (sym same)
          (subst (KeepsPlace (stream_in old number)) (sym here) keeps)
      | inr other ↦
          let there : stream_in new n ≡ stream_in old n =
          ap (λ vs. stream_in vs n) is ∙ get_or-set_other old number n changed (new_stream_view 0 0 0) other in
          subst (KeepsPlace (stream_in old n)) (sym there) (keeps-itself (stream_in old n))
    ]

-- what serving some streams does to counts and room
pub record Serves (old new : List StreamView) (told left : Option Outside) (due later : Due) : Type 0 where
  pub count : length new ≡ length old
  pub pending : (k : ℕ) → k + pending_in_all old ≤ due.spare → k + pending_in_all new ≤ later.spare
  pub views : (n : ℕ) → KeepsPlace (stream_in old n) (stream_in new n)
  pub within : (top : ℕ) → pending_in_all old ≤ due.spare → due.spare + length due.coming ≤ top →
      later.spare + length later.coming ≤ top
  pub servable : (state : ReactorState) → AreServable old state told → AreServable new state left
  pub lines : (all : List Line) → IfSome told (λ outside. outside.lines ≡ all) →
      IfSome left (λ outside. outside.lines ≡ all)

lines-kept : (number : ℕ) (told left : Option Outside) (all : List Line) → ChangesOne number told left →
    IfSome told (λ outside. outside.lines ≡ all) → IfSome left (λ outside. outside.lines ≡ all)
lines-kept number None left all changes same =
    subst (λ (t : Option Outside). IfSome t (λ outside. outside.lines ≡ all)) (sym changes) tt
lines-kept number (Some outside) left all changes same =
    subst (λ (t : Option Outside). IfSome t (λ o. o.lines ≡ all)) (sym changes) same

serves-one : (last : Bool) (number : ℕ) (old new : List StreamView) (told left : Option Outside) (due later : Due) →
    number < length old → IsServedAt last number old new told left due later → Serves old new told left due later
serves-one last number old new told left due later within served =
    let before = stream_in old number in
    let after = stream_in new number in
    let changed : StreamView = record before { held = after.held; reads = after.reads; writes = after.writes } in
    let reads = served.gives.reads in
    let writes = served.gives.writes in
    let first = gives-count may_give_read before.reads after.reads reads.completed reads.in_order in
    let second = gives-count may_give_write before.writes after.writes writes.completed writes.in_order in
    let between = ap (λ (d : Due). d.spare) reads.due in
    let last_spare = ap (λ (d : Due). d.spare) writes.due in
    let between_long = ap (λ (d : Due). length d.coming) reads.due ∙ length-append due.coming reads.completed in
    let last_long =
    ap (λ (d : Due). length d.coming) writes.due ∙ length-append served.gives.between.coming writes.completed in
    let total = sum_by-set pending_on old number changed (new_stream_view 0 0 0) within in
    let same = ap pending_in_all served.others in
    let one = pending-at old number within in
    record {
      count = count-served last number old new told left due later served;
      pending = λ k room. omega (arith, first, second, between, last_spare, total, same, one, room);
      views =
          keeps-at old new number changed within served.others
          (record { reads = omega arith; writes = omega arith; reads_room = refl; writes_room = refl; room = refl });
      within = λ top room most.
          omega (arith, first, second, between, last_spare, between_long, last_long, one, room, most);
      servable = λ state is. servable-served last number old new state state told left due later refl is served;
      lines = λ all is. lines-kept number told left all served.changes is;
    }

pub serves : {last : Bool} {number : ℕ} {old new : List StreamView} {told left : Option Outside} {due later : Due} →
    number ≤ length old → AreServedBelow last number old new told left due later → Serves old new told left due later
serves {old = old} {told = told} {due = due} few none_served = record {
  count = refl;
  pending = λ k room. room;
  views = λ n. keeps-itself (stream_in old n);
  within = λ top room most. most;
  servable = λ state is. is;
  lines = λ all is. is;
}
serves {last = last} few (one_served {number = number} {first = first} {old = old} {new = new} {before = before}
    {told = told} {left = left} {start = start} {due = due} {later = later} below at) =
    let lower = serves (omega arith) below in
    let step = serves-one last number old new told left due later (omega (arith, lower.count, few)) at in
    record {
      count = step.count ∙ lower.count;
      pending = λ k room. step.pending k (lower.pending k room);
      views = λ n. keeps-both (stream_in first n) (stream_in old n) (stream_in new n) (lower.views n) (step.views n);
      within = λ top room most.
          step.within top (let all = lower.pending 0 (omega arith) in omega arith) (lower.within top room most);
      servable = λ state is. step.servable state (lower.servable state is);
      lines = λ all is. step.lines all (lower.lines all is);
    }

-- a reactor goes on telling its bytes, or telling none
pub tells-served : {last : Bool} {number : ℕ} {old new : List StreamView} {told left : Option Outside}
    {due later : Due} → AreServedBelow last number old new told left due later → tells left ≡ tells told
tells-served none_served = refl
tells-served (one_served {number = number} {told = told} {left = left} below at) =
    tells-changed number told left at.changes ∙ tells-served below

-- what holds of a stream that was served, holds on while others are served
pub served-each : (P : StreamView → Type 0) (last : Bool) (number : ℕ) (old new : List StreamView)
    (told left : Option Outside) (due later : Due) → number < length old →
    IsServedAt last number old new told left due later → P (stream_in new number) →
    ((n : ℕ) → n < number → P (stream_in old n)) → (n : ℕ) → n < number + 1 → P (stream_in new n)
served-each P last number old new told left due later within at here before n below =
    let v = stream_in old number in
    let w = stream_in new number in
    let changed : StreamView = record v { held = w.held; reads = w.reads; writes = w.writes } in
    elim (cases_eq n number) [
      | inl same ↦ subst (λ m. P (stream_in new m)) (sym same) here
      | inr other ↦
          let there : stream_in new n ≡ stream_in old n =
          ap (λ vs. stream_in vs n) at.others
          ∙ get_or-set_other old number n changed (new_stream_view 0 0 0) other in
          subst P (sym there) (before n (omega arith))
    ]

-- after the last time point the streams that were served are empty
abbrev is_emptied : StreamView → Type 0
is_emptied view = IsEmptied (queues_in view)

drained-below : {last : Bool} {number : ℕ} {old new : List StreamView} {told left : Option Outside} {due later : Due} →
    number ≤ length old → last ≡ true → AreServedBelow last number old new told left due later → (n : ℕ) → n < number →
    is_emptied (stream_in new n)
drained-below few over none_served = λ n below. absurd (omega arith)
drained-below {last = last} few over (one_served {number = number} {old = old} {new = new} {told = told} {left = left}
    {due = due} {later = later} below at) =
    let lower = serves (omega arith) below in
    served-each is_emptied last number old new told left due later (omega (arith, lower.count, few)) at
    (at.reads_after_last over, at.writes_after_last over) (drained-below (omega arith) over below)

pub drained-all : (last : Bool) (old new : List StreamView) (told left : Option Outside) (due later : Due) →
    AreServedBelow last (length old) old new told left due later → last ≡ true →
    All (λ view. IsEmptied (queues_in view)) new
drained-all last old new told left due later served over = λ k d b.
    let count = (serves (omega arith) served).count in
    let is = drained-below (omega arith) over served k (omega (arith, b, count)) in
    subst (λ (view : StreamView). IsEmptied (queues_in view)) (get_or_default new k (new_stream_view 0 0 0) d b) is
