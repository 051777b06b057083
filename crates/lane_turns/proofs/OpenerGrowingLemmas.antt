-- The opener's log stays one where more steps of others are known, and goes on by parts.
use Rattle.std.proofs.Common.{◌≡◌, ℕ, ◌≤◌, List, [], ◌∷◌, ◌++◌, length, sym, ap, subst, ◌∙◌, arith, append_assoc}
use Rattle.std.specs.Prelude.{map}
use Rattle.std.proofs.lemmas.List.{append-nil}
use Rattle.asio_types.specs.declared.event.Event.{Event}
use Rattle.asio_types.specs.declared.event.Event.TheVariants as event
use Rattle.lane_clock.specs.declared.step.ClockStep.{ClockStep}
use Rattle.lane_clock.specs.declared.step.ClockStep.TheVariants.{Look}
use Rattle.lane_clock.specs.Knowledge.{StartOf}
use Rattle.lane_map.specs.LaneNumbers.{reactor_lane}
use Rattle.session_script.specs.Script.{ScriptModel}
use Rattle.lane_logs.specs.Cuts.{HasStarted, NoneStops}
use Rattle.lane_logs.specs.Knowing.{joined_count}
use Rattle.lane_logs.specs.Labels.{steps_in}
use Rattle.lane_logs.specs.OpenerLog.{AreOpenerParts, ClosedPart, Closes, Looked, MayFollowOpened, OpenerPart, ReactorWorks, resting, opened, restarted, closed, labels_of_opener, look_label, opener_labels, opener_steps, others_after}
use Rattle.lane_logs.proofs.LabelLemmas.{steps-append}
use Rattle.lane_turns.proofs.GrowingLemmas.{take_start}
use Rattle.lane_turns.proofs.MeetingLemmas.{joined_less}

module _ (script : ScriptModel) (lists longer : ℕ → List ClockStep) (more : (n : ℕ) → StartOf (lists n) (longer n)) where
  -- no more was taken in than is known
  abbrev pub Knows : List OpenerPart → Type 0
  Knows parts = (n : ℕ) → joined_count n (opener_steps parts) ≤ length (lists n)

  pub same_others : (parts : List OpenerPart) → Knows parts → (n : ℕ) →
      others_after script lists parts n ≡ others_after script longer parts n
  same_others parts knows n = sym (take_start _ (lists n) (longer n) (more n) (knows n))

  still_works : (parts : List OpenerPart) → Knows parts → ReactorWorks script lists parts →
      ReactorWorks script longer parts
  still_works parts knows is = subst NoneStops (same_others parts knows (reactor_lane script)) is

  still_closes : (parts : List OpenerPart) → Knows parts → (part : ClosedPart) (shown : Event) →
      Closes script lists parts part shown → Closes script longer parts part shown
  still_closes parts knows part event.Ended is = record { going = is.going; idle = is.idle }
  still_closes parts knows part event.Stopped is = is
  still_closes parts knows part event.Polled is =
      record {
        polls = is.polls;
        going = is.going;
        left = is.left;
        lanes =
            λ lane there.
            record {
              next = (is.lanes lane there).next;
              started =
                  λ place less.
                  subst (λ steps. HasStarted steps lane place) (same_others parts knows lane)
                  ((is.lanes lane there).started place less);
              empty = (is.lanes lane there).empty;
            };
      }
  still_closes parts knows part _ is = absurd is

  still_opens : (parts : List OpenerPart) (part : OpenerPart) → Knows parts → MayFollowOpened script lists parts part →
      MayFollowOpened script longer parts part
  still_opens parts (resting step) knows is = is
  still_opens parts (opened calls labels) knows is = record { first = is.first; acts = is.acts; drawn = is.drawn }
  still_opens parts (restarted drawn) knows is =
      record { opened = is.opened; wanted = is.wanted; working = still_works parts knows is.working }
  still_opens parts (closed part) knows is =
      record {
        round = is.round;
        working = still_works parts knows is.working;
        closes = still_closes parts knows part part.shown is.closes;
      }

  pub still_opened : (parts : List OpenerPart) → Knows parts → AreOpenerParts script lists parts →
      AreOpenerParts script longer parts
  still_opened [] knows are = tt
  still_opened (part ∷ parts) knows are =
      let split : opener_steps (part ∷ parts) ≡ opener_steps parts ++ steps_in (opener_labels part) =
      steps-append (labels_of_opener parts) (opener_labels part) in
      let less : Knows parts =
      λ n.
      omega (
        arith,
        knows n,
        ap (joined_count n) split,
        joined_less n (opener_steps parts) (steps_in (opener_labels part)),
      ) in
      (still_opened parts less are.0, still_opens parts part less are.1)

-- looks by themselves
abbrev pub rested : List OpenerPart → List Looked → List OpenerPart
rested parts [] = parts
rested parts (looked ∷ looks) = rested (resting (Look looked.lane looked.place looked.held) ∷ parts) looks

pub rested_labels : (parts : List OpenerPart) (looks : List Looked) →
    labels_of_opener (rested parts looks) ≡ labels_of_opener parts ++ map look_label looks
rested_labels parts [] = sym (append-nil (labels_of_opener parts))
rested_labels parts (looked ∷ looks) =
    rested_labels (resting (Look looked.lane looked.place looked.held) ∷ parts) looks
    ∙ append_assoc (labels_of_opener parts) (look_label looked ∷ []) (map look_label looks)

pub rested_parts : (script : ScriptModel) (lists : ℕ → List ClockStep) (parts : List OpenerPart) (looks : List Looked) →
    AreOpenerParts script lists parts → AreOpenerParts script lists (rested parts looks)
rested_parts script lists parts [] are = are
rested_parts script lists parts (looked ∷ looks) are =
    rested_parts script lists (resting (Look looked.lane looked.place looked.held) ∷ parts) looks (are, tt)
