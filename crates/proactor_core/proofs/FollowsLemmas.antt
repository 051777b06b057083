-- What a proactor follows, over a reactor that tells its bytes and over one that doesn't.
use Rattle.std.proofs.Common.{◌≡◌, ℕ, ◌+◌, ◌<◌, Bool, true, false, List, [], ◌∷◌, inl, Option, Some, None, length, map, sum_by, refl, sym, ap, subst, ◌∙◌, arith}
use Rattle.std.specs.List.{All}
use Rattle.std.specs.Option.{IfSome, option_map}
use Rattle.std.specs.Prelude.{Result, Ok, Err, IfNone, OnOk, count_by}
use Rattle.std.proofs.lemmas.List.{ext_get_or, get_or-map, length-map}
use Rattle.std.proofs.lemmas.List.Elements.{All-map}
use Rattle.std.proofs.lemmas.List.Sums.{sum_by-cons}
use Rattle.asio_types.specs.declared.outside.Point.{Point}
use Rattle.asio_types.specs.declared.outside.Point.TheVariants as point
use Rattle.session_script.specs.Script.{ScriptModel}
use Rattle.session_script.specs.WellFormed.{IsWellFormed}
use Rattle.stream_rules.specs.declared.queue.Completion.{Completion}
use Rattle.asio_types.specs.declared.world.Line.{Line}
use Rattle.stream_rules.specs.Stream.{Stream, new_stream}
use Rattle.stream_rules.specs.World.{lines_after}
use Rattle.history_rules.specs.Performing.{performed}
use Rattle.history_rules.specs.Requests.{MayTell, reactor_after_done}
use Rattle.history_rules.specs.Rounds.{IsDrained, IsEmptied, is_held}
use Rattle.history_rules.specs.Settling.{settled}
use Rattle.history_rules.specs.State.{ReactorHalf, StreamQueues}
use Rattle.history_rules.specs.Time.{next_time, pending_count}
use Rattle.history_rules.specs.Waits.{expiry_in}
use Rattle.reactor_trait.specs.Reactor.{Outside, ReactorState, outside_at}
use Rattle.proactor_core.specs.Proactor.{Follows, FollowsInTurn, FollowsUntold, FollowsUntoldInTurn, IsAt, IsSound, ProactorView, StandsAt, point_ahead, sent_to_peer, tells}
use Rattle.proactor_core.specs.Streams.{StreamView, pending_on, pending_in_all, queues_in}
use Rattle.proactor_core.specs.Untold.{AnswerAlike, IsUnservedOf, IsUntoldOf, RestAlike}
use Rattle.proactor_core.proofs.TellsLemmas.{if-untold, tells-mapped}
use Rattle.proactor_core.proofs.TickLemmas.{Tells, at-moved, half_moved, moved, point-next, tells-at}
use Rattle.proactor_core.proofs.UntoldPerformLemmas.{untold-performs}
use Rattle.proactor_core.proofs.UntoldRestLemmas.{untold-answers, untold-ends, untold-rests, untold-ticks}
use Rattle.proactor_core.proofs.UntoldTellLemmas.{untold-tells}

either : {P : Type 0} (t : Bool) → (t ≡ true → P) → (t ≡ false → P) → P
either true there else = there refl
either false there else = else refl

pub on-none : {A : Type 0} {P : Type 0} (answer : Option A) → P → IfNone answer P
on-none None p = p
on-none (Some value) p = tt

pub on-ok : {T F : Type 0} {P Q : Type 0} (result : Result T F) → (P → Q) → OnOk result P → OnOk result Q
on-ok (Ok value) f p = f p
on-ok (Err failed) f p = tt

abbrev in_queues : StreamQueues → ℕ
in_queues queues = length queues.reads + length queues.writes

count-queued : (views : List StreamView) → sum_by in_queues (map queues_in views) ≡ pending_in_all views
count-queued [] = refl
count-queued (view ∷ views) =
    sum_by-cons in_queues (queues_in view) (map queues_in views) ∙ ap (λ n. pending_on view + n) (count-queued views)
    ∙ sym (sum_by-cons pending_on view views)

-- what was sent on the streams of a half is what the reactor has sent
sent-alike : (first : Option Outside) (views : List StreamView) (all : List Stream) (lines : List Line) →
    Tells first views all lines → IfSome first (λ outside. map sent_to_peer outside.streams ≡ map sent_to_peer all)
sent-alike None views all lines tells = tt
sent-alike (Some outside) views all lines tells =
    let one = length-map outside.streams sent_to_peer in
    let other = length-map all sent_to_peer in
    let count = tells.count in
    let told_count = tells.told_count in
    ext_get_or [] (map sent_to_peer outside.streams) (map sent_to_peer all) (omega arith) (λ i b.
    get_or-map sent_to_peer outside.streams i new_stream [] (omega (arith, b, one))
    ∙ sym (ap sent_to_peer (tells.bytes i (omega (arith, b, one, told_count))))
    ∙ sym (get_or-map sent_to_peer all i new_stream [] (omega (arith, b, one, count, told_count))))

untold-moved : (script : ScriptModel) (to : Point) (telling : Bool) → telling ≡ false → (mid half : ReactorHalf) →
    IsUnservedOf script mid half →
    IsUnservedOf script (half_moved script telling to mid) (half_moved script telling to half)
untold-moved script to telling none mid half un =
    subst (λ t. IsUnservedOf script (half_moved script t to mid) (half_moved script t to half)) (sym none) (moves to)
  where
    moves : (to : Point) → IsUnservedOf script (half_moved script false to mid) (half_moved script false to half)
    moves (point.Time now) = untold-ticks script [] now mid.streams mid half un
    moves point.Last = untold-ends script [] mid.streams mid half un

module _ {X : Type 0} (told : X → Option Outside) where
  -- what holds of a followed half, whether bytes are told or not
  by-told : {P : Type 0} (view : ProactorView X) (half : ReactorHalf) → Follows told view half →
      (IsAt told view half → P) → (FollowsUntold told view half → P) → P
  by-told view half is there else =
      either (tells (told view.reactor)) (λ telling. there (is.where_told telling)) (λ telling. else (is.where_untold telling))

  -- what is due to the proactor itself
  due-at : (view : ProactorView X) (mid : ReactorHalf) → IsAt told view mid → mid.due ≡ view.tables.due.coming
  due-at view mid at = sym (ap (λ (h : ReactorHalf). h.due) at.works)

  rests : (view : ProactorView X) (half : ReactorHalf) → view.tables.due.coming ≡ [] →
      (un : FollowsUntold told view half) → RestAlike view.script un.mid half
  rests view half over un = untold-rests view.script un.mid half un.untold (due-at view un.mid un.is_at ∙ over)

  -- between turns nothing is due
  pub in-turn : (view : ProactorView X) (half : ReactorHalf) → view.tables.due.coming ≡ [] → Follows told view half →
      FollowsInTurn told view half
  in-turn view half over is = record {
    where_told = is.where_told;
    where_untold = λ telling.
        let un = is.where_untold telling in
        record { mid = un.mid; is_at = un.is_at; unserved = (rests view half over un).unserved };
  }

  in-turn-guards : (view : ProactorView X) (half : ReactorHalf) → FollowsInTurn told view half →
      view.tables.guards ≡ half.guards
  in-turn-guards view half is =
      either (tells (told view.reactor)) (λ telling. ap (λ (h : ReactorHalf). h.guards) (is.where_told telling).works)
      (λ telling.
      let un = is.where_untold telling in
      ap (λ (h : ReactorHalf). h.guards) un.is_at.works
      ∙ sym (ap (λ (h : ReactorHalf). h.guards) un.unserved.others))

  -- a step in a turn
  pub steps-in-turn : (old new : ProactorView X) (f : ReactorHalf → ReactorHalf) →
      tells (told new.reactor) ≡ tells (told old.reactor) → new.script ≡ old.script →
      ((half : ReactorHalf) → IsAt told old half → IsAt told new (f half)) →
      (tells (told old.reactor) ≡ false → (mid half : ReactorHalf) → IsUnservedOf old.script mid half →
      IsUnservedOf old.script (f mid) (f half)) → (half : ReactorHalf) → FollowsInTurn told old half →
      FollowsInTurn told new (f half)
  steps-in-turn old new f same script steps untold half is = record {
    where_told = λ telling. steps half (is.where_told (sym same ∙ telling));
    where_untold = λ telling.
        let was = sym same ∙ telling in
        let un = is.where_untold was in
        record {
          mid = f un.mid;
          is_at = steps un.mid un.is_at;
          unserved = subst (λ s. IsUnservedOf s (f un.mid) (f half)) (sym script) (untold was un.mid half un.unserved);
        };
  }

  -- an act is performed
  pub performs-in-turn : (old new : ProactorView X) (a : ℕ) → IsWellFormed old.script →
      tells (told new.reactor) ≡ tells (told old.reactor) → new.script ≡ old.script →
      ((half : ReactorHalf) → IsAt told old half → IsAt told new (performed old.script a half)) →
      old.tables.due.coming ≡ [] → (half : ReactorHalf) → Follows told old half →
      FollowsInTurn told new (performed old.script a half)
  performs-in-turn old new a formed same script steps over half is =
      steps-in-turn old new (performed old.script a) same script steps
      (λ telling mid h un. untold-performs old.script a mid h formed un) half (in-turn old half over is)

  -- time moves
  pub tells-moved : (view : ProactorView X) (reactor : X) (to : Point) →
      told reactor ≡ option_map (outside_at to) (told view.reactor) → tells (told reactor) ≡ tells (told view.reactor)
  tells-moved view reactor to told_moves = ap tells told_moves ∙ tells-mapped (outside_at to) (told view.reactor)

  pub moves-in-turn : (view : ProactorView X) (reactor : X) (to : Point) →
      All (λ wait. view.tables.time < expiry_in view.tables.waiting.expiries wait) view.tables.waiting.waits →
      to ≡ point_ahead view.script view.tables → view.tables.due.coming ≡ [] →
      told reactor ≡ option_map (outside_at to) (told view.reactor) → (half : ReactorHalf) → Follows told view half →
      FollowsInTurn told (moved to reactor view) (half_moved view.script (tells (told view.reactor)) to half)
  moves-in-turn view reactor to ahead next over told_moves half is =
      steps-in-turn view (moved to reactor view) (half_moved view.script (tells (told view.reactor)) to)
      (tells-moved view reactor to told_moves) refl (λ h at. at-moved told view reactor h to ahead next told_moves at)
      (λ telling mid h un. untold-moved view.script to (tells (told view.reactor)) telling mid h un) half
      (in-turn view half over is)

  -- a turn ends
  pub settles-in-turn : (old new : ProactorView X) → tells (told new.reactor) ≡ tells (told old.reactor) →
      ((half : ReactorHalf) → tells (told old.reactor) ≡ true → IsAt told old half →
      IsAt told new (settled true half)) →
      ((half : ReactorHalf) → tells (told old.reactor) ≡ false → FollowsUntoldInTurn told old half →
      FollowsUntold told new (settled false half)) → (half : ReactorHalf) → FollowsInTurn told old half →
      Follows told new (settled (tells (told old.reactor)) half)
  settles-in-turn old new same steps untold half is = record {
    where_told = λ telling.
        let was = sym same ∙ telling in
        subst (λ t. IsAt told new (settled t half)) (sym was) (steps half was (is.where_told was));
    where_untold = λ telling.
        let was = sym same ∙ telling in
        subst (λ t. FollowsUntold told new (settled t half)) (sym was) (untold half was (is.where_untold was));
  }

  -- the guards after an act
  pub guards-performed : (old new : ProactorView X) (a : ℕ) → IsWellFormed old.script →
      tells (told new.reactor) ≡ tells (told old.reactor) → new.script ≡ old.script →
      ((half : ReactorHalf) → IsAt told old half → IsAt told new (performed old.script a half)) →
      old.tables.due.coming ≡ [] → (half : ReactorHalf) → Follows told old half →
      new.tables.guards ≡ (performed old.script a half).guards
  guards-performed old new a formed same script steps over half is =
      in-turn-guards new (performed old.script a half) (performs-in-turn old new a formed same script steps over half is)

  -- a completion is told
  pub tells-between : (old new : ProactorView X) (head : Completion) (rest : List Completion) →
      old.tables.due.coming ≡ head ∷ rest → tells (told new.reactor) ≡ tells (told old.reactor) →
      new.script ≡ old.script →
      ((half : ReactorHalf) → IsAt told old half → IsAt told new (reactor_after_done old.script half head.op)) →
      (half : ReactorHalf) → Follows told old half → Follows told new (reactor_after_done old.script half head.op)
  tells-between old new head rest coming same script steps half is = record {
    where_told = λ telling. steps half (is.where_told (sym same ∙ telling));
    where_untold = λ telling.
        let un = is.where_untold (sym same ∙ telling) in
        let alike = untold-tells old.script head rest un.mid half un.untold (due-at old un.mid un.is_at ∙ coming) in
        record {
          mid = reactor_after_done old.script un.mid head.op;
          is_at = steps un.mid un.is_at;
          untold =
              subst
              (λ s.
              IsUntoldOf s (reactor_after_done old.script un.mid head.op)
              (reactor_after_done old.script half head.op)) (sym script) alike.after;
        };
  }

  module _ (view : ProactorView X) (half : ReactorHalf) (is : Follows told view half) where
    answers : (un : FollowsUntold told view half) → AnswerAlike view.script un.mid half
    answers un = untold-answers view.script un.mid half un.untold

    -- what a half counts
    pub guards-alike : count_by is_held half.guards ≡ count_by is_held view.tables.guards
    guards-alike = by-told view half is
        (λ at. sym (ap (λ (h : ReactorHalf). count_by is_held h.guards) at.works))
        (λ un. (answers un).guards ∙ sym (ap (λ (h : ReactorHalf). count_by is_held h.guards) un.is_at.works))

    pub taken-alike : half.taken ≡ view.tables.taken
    taken-alike = by-told view half is
        (λ at. sym (ap (λ (h : ReactorHalf). h.taken) at.works))
        (λ un. (answers un).taken ∙ sym (ap (λ (h : ReactorHalf). h.taken) un.is_at.works))

    now-alike : half.now ≡ view.tables.time
    now-alike = by-told view half is
        (λ at. sym (ap (λ (h : ReactorHalf). h.now) at.works))
        (λ un.
        let others = un.untold.1.others in
        ap (λ (h : ReactorHalf). h.now) others ∙ sym (ap (λ (h : ReactorHalf). h.now) un.is_at.works))

    pending-at : (mid : ReactorHalf) → IsAt told view mid →
        pending_count mid
        ≡ length view.tables.waiting.waits + pending_in_all view.streams + length view.tables.due.coming
    pending-at mid at =
        ap pending_count (sym at.works)
        ∙ ap (λ n. length view.tables.waiting.waits + n + length view.tables.due.coming) (count-queued view.streams)

    pub pending-alike : pending_count half
        ≡ length view.tables.waiting.waits + pending_in_all view.streams + length view.tables.due.coming
    pending-alike = by-told view half is (pending-at half) (λ un. (answers un).pending ∙ pending-at un.mid un.is_at)

    pub next-alike : All (λ wait. view.tables.time < expiry_in view.tables.waiting.expiries wait)
        view.tables.waiting.waits → next_time view.script half ≡ point_ahead view.script view.tables
    next-alike ahead =
        by-told view half is (point-next told view half ahead)
        (λ un. (answers un).next ∙ point-next told view un.mid ahead un.is_at)

    -- nothing is due, and after the last time point nothing is pending on a stream
    pub over-alike : view.tables.due.coming ≡ [] → half.due ≡ []
    over-alike over = by-told view half is (λ at. due-at view half at ∙ over) (λ un. (rests view half over un).due)

    drained-at : (state : X → ReactorState) (mid : ReactorHalf) → IsSound state told view → IsAt told view mid →
        IsDrained mid
    drained-at state mid sound at = λ last.
        let over = ap (λ (h : ReactorHalf). h.last) at.works ∙ last in
        subst (All IsEmptied) (ap (λ (h : ReactorHalf). h.queues) at.works)
        (All-map IsEmptied queues_in view.streams (sound.drained over))

    pub drained-alike : (state : X → ReactorState) → IsSound state told view → view.tables.due.coming ≡ [] →
        IsDrained half
    drained-alike state sound over =
        by-told view half is (drained-at state half sound)
        (λ un. (rests view half over un).drained (drained-at state un.mid sound un.is_at))

    -- the head of what is due may be told
    told-alike : (head : Completion) (rest : List Completion) → view.tables.due.coming ≡ head ∷ rest →
        IsAt told view half → MayTell view.script true half head.op head.outcome.0 head.outcome.1
    told-alike head rest coming at =
        let due : half.due ≡ head ∷ rest = due-at view half at ∙ coming in
        inl (record { head = head; due = rw due refl; is_op = refl; outcome = refl })

    pub tells-alike : (head : Completion) (rest : List Completion) → view.tables.due.coming ≡ head ∷ rest →
        MayTell view.script (tells (told view.reactor)) half head.op head.outcome.0 head.outcome.1
    tells-alike head rest coming = either (tells (told view.reactor))
        (λ telling.
        subst (λ t. MayTell view.script t half head.op head.outcome.0 head.outcome.1) (sym telling)
        (told-alike head rest coming (is.where_told telling)))
        (λ telling.
        let un = is.where_untold telling in
        let alike = untold-tells view.script head rest un.mid half un.untold (due-at view un.mid un.is_at ∙ coming) in
        subst (λ t. MayTell view.script t half head.op head.outcome.0 head.outcome.1) (sym telling) alike.told)

    -- where the reactor stands
    pub stands-alike : (state : X → ReactorState) → IsSound state told view →
        StandsAt (state view.reactor) (told view.reactor) half
    stands-alike state sound = record {
      up = sound.turning.step.servable.up;
      now = sound.turning.step.now ∙ sym now-alike;
      sent = either (tells (told view.reactor))
          (λ telling.
          sent-alike (told view.reactor) view.streams half.streams
          (lines_after view.tables.time view.script.world.lines)
          (tells-at told view view.reactor half (is.where_told telling)))
          (λ telling. if-untold _ (told view.reactor) telling);
    }
