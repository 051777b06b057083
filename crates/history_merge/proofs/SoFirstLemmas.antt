-- Before the first step all that is kept holds.
use Rattle.std.proofs.Common.{◌≡◌, ℕ, zero, suc, ◌<◌, Bool, true, false, cond, List, [], length, replicate, refl, sym, ap, subst, ◌∙◌, arith, append-nil}
use Rattle.std.specs.Prelude.{◌&&◌, slice_index_or}
use Rattle.std.proofs.lemmas.List.Elements.{All-replicate}
use Rattle.std.proofs.lemmas.List.{length-replicate}
use mathlib.Core.Option.{some-ne-none}
use Rattle.asio_types.specs.declared.event.Event.{Event}
use Rattle.asio_types.specs.declared.event.Event.TheVariants as event
use Rattle.session_script.specs.Script.{ScriptModel}
use Rattle.session_script.specs.Lanes.{lane_of}
use Rattle.history_rules.specs.Calls.{is_open}
use Rattle.history_rules.specs.Order.{is_request, was_taken}
use Rattle.history_rules.specs.Rounds.{is_running}
use Rattle.history_rules.specs.State.{State, act_at, call_at, first_context, first_state, fresh, phase_at}
use Rattle.history_rules.specs.declared.phase.ActPhase.TheVariants as phase
use Rattle.history_rules.specs.declared.phase.ActState.{ActState}
use Rattle.history_rules.specs.declared.phase.CallPhase.TheVariants as call
use Rattle.history_rules.specs.declared.phase.Cause.TheVariants as cause
use Rattle.execution_laws.specs.Kinds.{was_called}
use Rattle.execution_laws.specs.Rest.{IsAtRest, waits_inside}
use Rattle.execution_laws.specs.Work.{is_pending, is_requested, pending_acts}
use Rattle.execution_laws.proofs.CountingLemmas.{counted-never, counted-range}
use Rattle.reactor_turns.proofs.AheadLemmas.{none_first, starts_bounded}
use Rattle.lane_map.specs.LaneNumbers.{home_lane}
use Rattle.lane_logs.specs.Labels.{Labelled}
use Rattle.lane_logs.specs.Logs.{AreLogs, LogsView, session_layout}
use Rattle.lane_logs.specs.Names.{SessionNames}
use Rattle.lane_logs.specs.SeatNumbers.{lane_count}
use Rattle.asio_types.specs.declared.number.Lane.{Lane}
use Rattle.history_merge.specs.Among.{is_underway}
use Rattle.history_merge.proofs.AlikeLemmas.{LooksAlike, never}
use Rattle.history_merge.proofs.AmongLemmas.{IsGoing}
use Rattle.history_merge.proofs.CalledLemmas.{first_order}
use Rattle.history_merge.proofs.DatesLemmas.{AreDated, IsShownAt, is_dropped}
use Rattle.history_merge.proofs.EachActLemmas.{act_in}
use Rattle.history_merge.proofs.KindLemmas.{IsActOfKind}
use Rattle.history_merge.proofs.LabellingLemmas.{AreLabels}
use Rattle.history_merge.proofs.NextLeftLemmas.{events_by}
use Rattle.history_merge.proofs.ReadyLemmas.{IsPosted}
use Rattle.history_merge.proofs.SoLemmas.{IsBalanced, IsSo, IsSoundState}
use Rattle.history_merge.proofs.SoloLemmas.{all_fresh, idle_alike}
use Rattle.history_merge.proofs.StageLemmas.{left_behind, left_first, left_last, left_of, parts_of, stage_between}
use Rattle.history_merge.proofs.WordLemmas.{word_first}

-- nothing was shown
none_shown : (shown : Event) (count : ℕ) → IsShownAt [] shown count → ⊥
none_shown shown count is = some-ne-none shown (sym is.there)

all_false : (count n : ℕ) → slice_index_or (replicate count false) n false ≡ false
all_false zero n = refl
all_false (suc count) zero = refl
all_false (suc count) (suc n) = all_false count n

module _ (script : ScriptModel) (told : Bool) where
  abbrev first : State
  first = first_state script told

  fresh_at : (n : ℕ) → act_at first.context n ≡ fresh
  fresh_at n = all_fresh (length script.acts) n

  uncalled : (n : ℕ) → was_called (call_at first.context n) ≡ true → ⊥
  uncalled n called =
      never (was_called (call_at first.context n)) (ap (λ (act : ActState). was_called act.call) (fresh_at n)) called

  untaken : (n : ℕ) → was_taken first.reactor n ≡ false
  untaken n = all_false (length script.acts) n

  not_pending : (n : ℕ) → is_pending first n ≡ false
  not_pending n = ap (λ (act : ActState). is_requested act.phase && was_taken first.reactor n) (fresh_at n)

  none_pending : pending_acts first ≡ 0
  none_pending =
      let all = counted-range (is_pending first) (length first.context.acts) in
      let none =
      counted-never (is_pending first) (length first.context.acts)
      (λ n is. never (is_pending first n) (not_pending n) is) in
      omega (arith, all, none)

  first_balanced : IsBalanced script first
  first_balanced =
      let half = (starts_bounded script told).is_half in
      let queues = none_first first.reactor.queues script.world.streams refl in
      let none = none_pending in
      record {
        accounted = record {
          streams = half.streams;
          marks = half.marks;
          asked = λ n asks.
              absurd (never (is_request (phase_at first.context n))
              (ap (λ (act : ActState). is_request act.phase) (fresh_at n)) asks);
          pending = omega (arith, queues, none);
        };
        standing = λ n. half.taken n (untaken n) ∙ sym (ap (λ b. cond b 1 0) (not_pending n));
      }

  pub first_sound : IsSoundState script first
  first_sound = record {
    order = first_order script told;
    kinds = λ n. subst (IsActOfKind script n) (sym (fresh_at n)) (record {
      spent = λ isnt. refl;
      entered = λ is called. absurd (cc);
      inline = λ is. refl;
      asked = λ asks. absurd (cc);
      posted = λ given size is. absurd (cc);
    });
    posted = λ n. subst (IsPosted script n) (sym (fresh_at n)) (record { stands = λ posts out called. absurd (cc) });
    opens = λ n root is.
        absurd (never (is_open (call_at first.context n)) (ap (λ (act : ActState). is_open act.call) (fresh_at n)) is);
    untaken = λ n is. untaken n;
    asking = λ n asks called fresh_still. absurd (uncalled n called);
    half = (starts_bounded script told).is_half;
    guards = length-replicate script.guards true;
    balanced = λ works. first_balanced;
  }

  pub first_dated : AreDated script [] first.context
  first_dated = record {
    called = λ n called. absurd (uncalled n called);
    dates = λ n d is. absurd (none_shown (event.Call n) d is);
    back = λ n c b is.
        absurd (let wrong : call.Uncalled ≡ call.Back c b = sym (ap (λ (act : ActState). act.call) (fresh_at n)) ∙ is in cc);
    caused = λ n given size d t is.
        absurd (let wrong : phase.Absent ≡ phase.Ready given size (cause.Completed d t) =
        sym (ap (λ (act : ActState). act.phase) (fresh_at n)) ∙ is in cc);
    turn = λ t is. absurd (cc);
    kind = λ n given size d is. absurd (none_shown (event.Done n given size) d is);
    once = λ n one two a b d e here there. absurd (none_shown (event.Done n one a) d here);
    undropped = λ n. ap (λ (act : ActState). is_dropped act.phase) (fresh_at n);
    told = λ n given size d is. absurd (none_shown (event.Done n given size) d is);
    begun = λ n given size d is. absurd (none_shown (event.Begin n given size) d is);
  }

  first_rest : IsAtRest script first.context
  first_rest = record {
    acts = length-replicate (length script.acts) fresh;
    quiet = All-replicate (λ act. is_running act.phase ≡ false) (length script.acts) fresh refl;
    entered = All-replicate (λ act. waits_inside act.phase ≡ false) (length script.acts) fresh refl;
    back = All-replicate (λ act. is_open act.call ≡ false) (length script.acts) fresh refl;
    counted = omega arith;
  }

  first_going : (lane : Lane) → IsGoing script told lane [] first.context.acts
  first_going lane = record {
    alone = first;
    legal = tt;
    own = tt;
    sees = record {
      size = refl;
      each = λ n.
          subst (λ x. LooksAlike script lane n x (act_in first.context.acts n)) (sym (fresh_at n))
          (idle_alike script lane n fresh (act_in first.context.acts n) refl refl (λ inside. refl)
          (λ of. ap (λ (act : ActState). is_underway act.phase) (fresh_at n))
          (λ by. ap (λ (act : ActState). is_open act.call) (fresh_at n)));
    };
    ends = first_rest;
  }

module _ (names : SessionNames) (logs : LogsView) (labels : ℕ → List Labelled) (logged : AreLogs names logs)
    (are : AreLabels names logs labels) where
  -- nothing is left before the first step
  none_left : (lane : ℕ) (within : lane < lane_count names.script) →
      events_by (left_behind names.script lane (parts_of names logs labels are lane within) 0) ≡ []
  none_left lane within =
      let parts = parts_of names logs labels are lane within in
      ap events_by
      (ap (λ ps. left_behind names.script lane ps 0) (sym (append-nil parts))
      ∙ stage_between names.script lane [] (left_of names.script lane) (left_first names.script lane)
      (left_last names.script lane) parts [] 0 refl)

  pub so_first : IsSo names logs labels are []
  so_first = record {
    legal = tt;
    expected = tt;
    state = first_sound names.script names.told;
    dates = first_dated names.script names.told;
    going = λ o op within.
        subst (λ left. IsGoing names.script names.told (lane_of names.script o) left (first_context names.script).acts)
        (sym (none_left (home_lane names.script o) within)) (first_going names.script names.told (lane_of names.script o));
    counts =
        word_first names.script names.told labels (session_layout names.script).seats logged.closed.few.0 logged.closed.few.1;
    few = omega arith;
    halted = record { order = omega arith; stopped = refl };
  }
