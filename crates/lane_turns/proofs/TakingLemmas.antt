-- A request that the reactor takes.
use Rattle.std.proofs.Common.{◌≡◌, ℕ, ◌-◌, ◌^◌, ◌<◌, ◌≤◌, Bool, true, false, not, cond, List, [], ◌∷◌, Option, Some, None, inl, inr, length, refl, sym, ap, subst, ◌∙◌, arith}
use Rattle.std.specs.Prelude.{◌&&◌, IsTrue, count_by, min, nat_eq, nat_lt, slice_get, if◌then◌else◌}
use Rattle.std.specs.List.{slice_index_or}
use Rattle.std.proofs.lemmas.Bool.{cases_lt, le-ltb, lt-ltb}
use Rattle.std.proofs.lemmas.List.Sums.{count_by-le-length}
use Rattle.std.proofs.lemmas.Option.{slice_get_past}
use Rattle.asio_types.specs.Faults.{Rose}
use Rattle.asio_types.specs.declared.event.Event.TheVariants as event
use Rattle.session_script.specs.declared.act.Act.{Act}
use Rattle.session_script.specs.declared.act.Act.TheVariants as act
use Rattle.session_script.specs.Limits.{limits_of}
use Rattle.session_script.specs.Script.{ScriptModel, act_of, is_stop, stops}
use Rattle.session_script.specs.WellFormed.{IsWellFormed}
use Rattle.history_rules.specs.Kinds.{is_act, is_control, is_posting}
use Rattle.history_rules.specs.Order.{was_taken}
use Rattle.history_rules.specs.Performing.{performed}
use Rattle.history_rules.specs.Requests.{reactor_after_take}
use Rattle.history_rules.specs.State.{ReactorHalf}
use Rattle.reactor_trait.specs.Reactor.{Outside, ReactorState}
use Rattle.proactor_core.specs.Counts.{within_32_bits}
use Rattle.proactor_core.specs.Proactor.{Follows, IsSound, ProactorView, tells}
use Rattle.proactor_core.specs.Room.{IsUntaken}
use Rattle.reactor_turns.specs.Ahead.{IsHalfOf, IsOpenRequest, LeavesRoom}
use Rattle.reactor_turns.specs.Turned.{IsTurned}
use Rattle.reactor_turns.proofs.AheadLemmas.{take_leaves}
use Rattle.reactor_turns.proofs.ClockLemmas.{runs-take}
use Rattle.reactor_turns.proofs.FollowsLemmas.{follows_taken}
use Rattle.reactor_turns.proofs.TurnedLemmas.{now-take}
use Rattle.lane_clock.specs.declared.found.Change.{Change}
use Rattle.lane_clock.specs.declared.found.Change.TheVariants as change
use Rattle.lane_map.specs.LaneNumbers.{asks_its_lane}
use Rattle.lane_logs.specs.Half.{held_guards}
use Rattle.lane_logs.specs.Names.{SessionNames}
use Rattle.lane_logs.specs.ReactorTurns.{may_take, take_change}
use Rattle.lane_logs.specs.Labels.{shows}
use Rattle.lane_logs.specs.Parts.{fault_label}
use Rattle.lane_logs.proofs.RequestLemmas.{asks_kind, posting_asks, request_within, asked}
use Rattle.lane_clock.specs.declared.found.Found.{Found}
use Rattle.lane_turns.specs.Pens.{HasGone, MayGo, PenView}
use Rattle.lane_turns.specs.Turning.{HasTold, HasTurned, HasTurnRoom, IsMidTurn, KeepsTurns, log_half}
use Rattle.lane_turns.proofs.TurningLemmas.{begun_half, begun_mid, begun_room, broken_turned, fault_keeps, fault_may, fault_room, room_to_draw, whole_keeps, whole_turned}

-- a request that may be taken
pub open_request : (script : ScriptModel) (half : ReactorHalf) (a : ℕ) → may_take script half a ≡ true →
    IsOpenRequest script half a
open_request script half a may =
    let request = asked script half a may in
    record {
      act = request.given;
      is = request.is;
      asks = asks_kind request.given request.asks;
      untaken = request.untaken;
    }

-- whether an act may be taken, by its kind
kind_takes : (script : ScriptModel) (half : ReactorHalf) (a : ℕ) (given : Act) → act_of script a ≡ Some given →
    may_take script half a ≡ ((not (is_posting given) && not (is_stop given)) && not (was_taken half a))
kind_takes script half a given is =
    let by_kind : may_take script half a
    ≡ ((not (asks_its_lane given) && not (is_stop given)) && not (was_taken half a)) = rw is refl in
    by_kind ∙ ap (λ b. (not b && not (is_stop given)) && not (was_taken half a)) (posting_asks given)

pub none_past : (script : ScriptModel) (half : ReactorHalf) (a : ℕ) → length script.acts ≤ a →
    false ≡ may_take script half a
none_past script half a past =
    let gone : slice_get script.acts a ≡ None = slice_get_past script.acts a past in rw gone refl

pub none_posting : (script : ScriptModel) (half : ReactorHalf) (a : ℕ) (given : Act) → act_of script a ≡ Some given →
    is_posting given ≡ true → false ≡ may_take script half a
none_posting script half a given is posting =
    sym (kind_takes script half a given is
    ∙ ap (λ b. (not b && not (is_stop given)) && not (was_taken half a)) posting)

pub none_stop : (script : ScriptModel) (half : ReactorHalf) (a : ℕ) (given : Act) → act_of script a ≡ Some given →
    is_posting given ≡ false → stops script a ≡ true → false ≡ may_take script half a
none_stop script half a given is posting stop =
    let stops_is : stops script a ≡ is_stop given = rw is refl in
    sym (kind_takes script half a given is
    ∙ ap (λ b. (not b && not (is_stop given)) && not (was_taken half a)) posting
    ∙ ap (λ b. not b && not (was_taken half a)) (sym stops_is ∙ stop))

pub taken_else : (script : ScriptModel) (half : ReactorHalf) (a : ℕ) (given : Act) → act_of script a ≡ Some given →
    is_posting given ≡ false → stops script a ≡ false → (was : Bool) → was ≡ was_taken half a →
    not was ≡ may_take script half a
taken_else script half a given is posting stop was same =
    let stops_is : stops script a ≡ is_stop given = rw is refl in
    ap not same
    ∙ sym (kind_takes script half a given is
    ∙ ap (λ b. (not b && not (is_stop given)) && not (was_taken half a)) posting
    ∙ ap (λ b. not b && not (was_taken half a)) (sym stops_is ∙ stop))

-- a count that its cap leaves
capped : (n c : ℕ) → c ≡ min n (2 ^ 32 - 1) → c < 2 ^ 32 - 1 → n ≡ c
capped n c same few = omega (arith, same, few)

-- a count that fell below another is found so by their caps
cap_less : (a b : ℕ) → b < 2 ^ 32 - 1 → nat_lt (min a (2 ^ 32 - 1)) b ≡ nat_lt a b
cap_less a b few = elim (cases_lt a b) [
  | inl less ↦ lt-ltb (min a (2 ^ 32 - 1)) b (omega (arith, less)) ∙ sym (lt-ltb a b less)
  | inr more ↦ le-ltb (min a (2 ^ 32 - 1)) b (omega (arith, more, few)) ∙ sym (le-ltb a b more)
]

change_by : (control : Bool) (one two : Bool) → one ≡ two →
    (if control then (if one then change.DownTwo else change.Down) else change.Same)
    ≡ (if control then (if two then change.DownTwo else change.Down) else change.Same)
change_by control one two same =
    ap (λ b. if control then (if b then change.DownTwo else change.Down) else change.Same) same

module _ {X : Type 0} (names : SessionNames) (state : X → ReactorState) (told : X → Option Outside) (half : ReactorHalf)
    (view : ProactorView X) (turned : IsTurned state told half view) (script : view.script ≡ names.script)
    (tells_same : tells (told view.reactor) ≡ names.told) (fit : IsHalfOf names.script half) (a : ℕ)
    (may : may_take names.script half a ≡ true) where
  abbrev request : IsOpenRequest names.script half a
  request = open_request names.script half a may

  pub is_untaken : IsUntaken a view.tables
  is_untaken =
      let within = request_within names.script half a may in
      let taken = follows_taken told view half turned.telling.follows in
      record {
        within = let same = ap length taken in omega (arith, same, within, fit.marks);
        untaken = ap (λ (xs : List Bool). slice_index_or xs a false) (sym taken) ∙ request.untaken;
      }

  pub taking_leaves : IsWellFormed names.script →
      LeavesRoom names.script half (reactor_after_take names.script names.told half a)
  taking_leaves well = take_leaves names.script names.told half a well fit request

  pub taking_works : (reactor_after_take names.script names.told half a).failed ≡ false
  taking_works =
      (runs-take names.script names.told half a request.act request.is).failed ∙ turned.telling.works

  pub taking_now : (now : ℕ) → now ≡ half.now → now ≡ (reactor_after_take names.script names.told half a).now
  taking_now now same = same ∙ sym (now-take names.script names.told half a)

  pub taking_follows : (next : ProactorView X) →
      ((half : ReactorHalf) → Follows told view half →
      Follows told next (reactor_after_take view.script (tells (told view.reactor)) half a)) →
      Follows told next (reactor_after_take names.script names.told half a)
  taking_follows next follows =
      subst (λ b. Follows told next (reactor_after_take names.script b half a)) tells_same
      (subst (λ (s : ScriptModel). Follows told next (reactor_after_take s (tells (told view.reactor)) half a)) script
      (follows half turned.telling.follows))

  -- the guards tell what the take changes
  pub taking_change : (given : Act) → act_of names.script a ≡ Some given → length view.tables.guards < 256 →
      (guards_before guards_after : ℕ) (after : List Bool) →
      guards_before ≡ within_32_bits (count_by (λ held. held) view.tables.guards) →
      ((half : ReactorHalf) → Follows told view half → guards_before ≡ within_32_bits (held_guards half)) →
      guards_after ≡ within_32_bits (count_by (λ held. held) after) →
      ((half : ReactorHalf) → Follows told view half → after ≡ (performed view.script a half).guards) →
      (changes : Change) →
      changes ≡ (if is_control given
      then (if nat_lt guards_after guards_before then change.DownTwo else change.Down) else change.Same) →
      changes ≡ take_change names.script half a
  taking_change given is few guards_before guards_after after counts before_is after_counts after_is changes same =
      let most = count_by-le-length (λ held. held) view.tables.guards in
      let small : guards_before < 2 ^ 32 - 1 = omega (arith, counts, most, few) in
      let held : held_guards half ≡ guards_before =
      capped (held_guards half) guards_before (before_is half turned.telling.follows) small in
      let left : after ≡ (performed names.script a half).guards =
      subst (λ (s : ScriptModel). after ≡ (performed s a half).guards) script (after_is half turned.telling.follows) in
      let falls : nat_lt guards_after guards_before
      ≡ nat_lt (held_guards (performed names.script a half)) (held_guards half) =
      ap (λ n. nat_lt n guards_before) (after_counts ∙ ap (λ (gs : List Bool). within_32_bits (count_by (λ held. held) gs)) left)
      ∙ cap_less (held_guards (performed names.script a half)) guards_before small
      ∙ ap (nat_lt (held_guards (performed names.script a half))) (sym held) in
      let control : is_act is_control names.script a ≡ is_control given = rw is refl in
      same ∙ change_by (is_control given) _ _ falls
      ∙ ap (λ b. if b then (if nat_lt (held_guards (performed names.script a half)) (held_guards half) then change.DownTwo else change.Down) else change.Same)
      (sym control)

-- no script has many guards
guards_allowed : (version : ℕ) → (limits_of version).guards ≤ 64
unfolding limits_of
guards_allowed version = either (nat_eq version 1)
  where
    either : (b : Bool) → cond b 16 64 ≤ 64
    either true = omega arith
    either false = omega arith

pub few_guards : (script : ScriptModel) → IsWellFormed script → (guards : ℕ) → guards ≡ script.guards → guards < 256
few_guards script well guards same =
    let most = well.guards in let allowed = guards_allowed script.version in omega (arith, same, most, allowed)

-- a turn that begins by a take
module _ {X : Type 0} (names : SessionNames) (state : X → ReactorState) (told : X → Option Outside) (faults : X → ℕ)
    (named : ℕ) (pen : PenView) (view : ProactorView X) (working : view.tables.failed ≡ false)
    (keeps : KeepsTurns names state told faults named (log_half names pen.log) view) (room : HasTurnRoom names pen)
    (a : ℕ) (may : may_take names.script (log_half names pen.log) a ≡ true) (well : IsWellFormed names.script) where
  abbrev half : ReactorHalf
  half = log_half names pen.log

  abbrev turned : IsTurned state told half view
  turned = keeps.turned working

  abbrev leaves : LeavesRoom names.script half (reactor_after_take names.script names.told half a)
  leaves = taking_leaves names state told half view turned keeps.script keeps.in_step.tells keeps.is_half a may well

  pub untaken_now : IsUntaken a view.tables
  untaken_now = is_untaken names state told half view turned keeps.script keeps.in_step.tells keeps.is_half a may

  pub take_may : MayGo pen 1 0
  take_may = room_to_draw names pen (reactor_after_take names.script names.told half a) room leaves

  module _ (changes : Change) (found : Found) (begun : PenView)
      (gone : HasGone (shows (event.Take a) changes found ∷ []) pen begun) (next : ProactorView X)
      (same_script : next.script ≡ view.script) (same_tells : tells (told next.reactor) ≡ tells (told view.reactor))
      (up : IsTrue (state next.reactor).up) (same_now : (state next.reactor).now ≡ (state view.reactor).now) where
    pub take_mid : IsSound state told next →
        ((half : ReactorHalf) → Follows told view half →
        Follows told next (reactor_after_take view.script (tells (told view.reactor)) half a)) →
        IsMidTurn names state told begun next
    take_mid sound follows =
        begun_mid names state told faults named half view keeps pen room (event.Take a) changes found begun gone leaves next
        same_script same_tells up
        (taking_now names state told half view turned keeps.script keeps.in_step.tells keeps.is_half a may
        (state next.reactor).now (same_now ∙ keeps.in_step.now))
        (taking_works names state told half view turned keeps.script keeps.in_step.tells keeps.is_half a may) sound
        (taking_follows names state told half view turned keeps.script keeps.in_step.tells keeps.is_half a may next follows)

    begun_at : log_half names begun.log ≡ reactor_after_take names.script names.told half a
    begun_at =
        begun_half names state told faults named half view keeps pen room (event.Take a) changes found begun gone leaves

    room_begun : HasTurnRoom names begun
    room_begun =
        begun_room names state told faults named half view keeps pen room (event.Take a) changes found begun gone leaves

    pub take_fault_may : MayGo begun 1 0
    take_fault_may =
        fault_may names state told faults named half view keeps (reactor_after_take names.script names.told half a)
        leaves.is_half (taking_works names state told half view turned keeps.script keeps.in_step.tells keeps.is_half a may)
        begun begun_at room_begun

    module _ (lost : Found) (new : PenView) (failing : HasGone (fault_label lost ∷ []) begun new) where
      pub take_fault_room : HasTurnRoom names new
      take_fault_room =
          fault_room names state told faults named half view keeps (reactor_after_take names.script names.told half a)
          leaves.is_half (taking_works names state told half view turned keeps.script keeps.in_step.tells keeps.is_half a may)
          begun begun_at room_begun lost new failing

      pub take_fault_keeps : next.tables.failed ≡ true → faults view.reactor ≤ faults next.reactor →
          Rose (faults view.reactor) (faults next.reactor) →
          KeepsTurns names state told faults named (log_half names new.log) next
      take_fault_keeps failed later rose =
          fault_keeps names state told faults named half view keeps (reactor_after_take names.script names.told half a)
          leaves.is_half (taking_works names state told half view turned keeps.script keeps.in_step.tells keeps.is_half a may)
          begun begun_at room_begun lost new failing next same_script same_tells up
          (taking_now names state told half view turned keeps.script keeps.in_step.tells keeps.is_half a may
          (state next.reactor).now (same_now ∙ keeps.in_step.now)) failed later rose

      pub take_fault_turned : changes ≡ take_change names.script half a →
          HasTurned names (event.Take a) (take_change names.script half a) true pen new
      take_fault_turned same =
          subst (λ changed. HasTurned names (event.Take a) changed true pen new) same
          (broken_turned names state told faults named half view keeps pen room (event.Take a) changes found begun gone leaves
          lost new failing)

    -- and is told whole
    pub take_turned : (new : PenView) → HasTold names begun new → (last : ProactorView X) →
        IsMidTurn names state told new last → IsTurned state told (log_half names new.log) last →
        changes ≡ take_change names.script half a →
        HasTurned names (event.Take a) (take_change names.script half a) false pen new
    take_turned new did last turn whole same =
        subst (λ changed. HasTurned names (event.Take a) changed false pen new) same
        (whole_turned names state told faults named half view keeps pen room (event.Take a) changes found begun gone leaves
        new did last turn whole)

    pub take_keeps : (new : PenView) → HasTold names begun new → (last : ProactorView X) →
        IsMidTurn names state told new last → IsTurned state told (log_half names new.log) last →
        faults last.reactor ≡ faults view.reactor →
        KeepsTurns names state told faults named (log_half names new.log) last
    take_keeps new did last turn whole same =
        whole_keeps names state told faults named half view keeps pen room (event.Take a) changes found begun gone leaves new
        did last turn whole working same

  -- the guards tell what the take changes
  pub change_is : (given : Act) → act_of names.script a ≡ Some given → (guards_before guards_after : ℕ)
      (after : List Bool) → guards_before ≡ within_32_bits (count_by (λ held. held) view.tables.guards) →
      ((half : ReactorHalf) → Follows told view half → guards_before ≡ within_32_bits (held_guards half)) →
      guards_after ≡ within_32_bits (count_by (λ held. held) after) →
      ((half : ReactorHalf) → Follows told view half → after ≡ (performed view.script a half).guards) →
      (changes : Change) →
      changes ≡ (if is_control given
      then (if nat_lt guards_after guards_before then change.DownTwo else change.Down) else change.Same) →
      changes ≡ take_change names.script half a
  change_is given is =
      taking_change names state told half view turned keeps.script keeps.in_step.tells keeps.is_half a may given is
      (few_guards names.script well (length view.tables.guards)
      (turned.telling.sound.turning.room.fit.guards ∙ ap (λ (s : ScriptModel). s.guards) keeps.script))
