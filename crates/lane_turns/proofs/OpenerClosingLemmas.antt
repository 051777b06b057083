-- The opener after it loaded and looked, and closed the round or didn't.
use Rattle.std.proofs.Common.{◌≡◌, ℕ, ◌+◌, Bool, true, false, List, [], ◌∷◌, length, refl, subst, arith}
use Rattle.asio_types.specs.declared.event.Event.{Event}
use Rattle.session_script.specs.Script.{ScriptModel}
use Rattle.lane_clock.specs.declared.found.Change.{Change}
use Rattle.lane_clock.specs.declared.found.Found.{Found}
use Rattle.lane_clock.specs.declared.step.ClockStep.TheVariants.{Load}
use Rattle.lane_clock.specs.Seats.{ClockId}
use Rattle.lane_map.specs.LaneNumbers.{reactor_lane}
use Rattle.lane_logs.specs.Cuts.{NoneStops}
use Rattle.lane_logs.specs.Labels.{shows, silent}
use Rattle.lane_logs.specs.Knowing.{lists_of}
use Rattle.lane_logs.specs.OpenerLog.{closing_change}
use Rattle.lane_logs.specs.SeatNumbers.{lane_count}
use Rattle.lane_logs.specs.Stand.{is_round_open}
use Rattle.lane_logs.proofs.StandLemmas.{less_closed, open_stand}
use Rattle.lane_turns.specs.declared.closing.Closing.{Closing}
use Rattle.lane_turns.specs.declared.standing.RoundNow.{RoundNow}
use Rattle.lane_turns.specs.Benches.{AreStartedAt}
use Rattle.lane_turns.specs.Closing.{BearsOut, HasWeighed, Weighs, closing_event}
use Rattle.lane_turns.specs.OpenerEvents.{HasClosed, HasWaited}
use Rattle.lane_turns.specs.Openers.{IsOpener, OpenerView, round_of}
use Rattle.lane_turns.specs.Pens.{HasGone, MayGo, PenView}
use Rattle.lane_turns.proofs.LookLemmas.{closing_gone, weighed_gone}
use Rattle.lane_turns.proofs.OpenerEventLemmas.{closed_after, waited_after}
use Rattle.lane_turns.proofs.PenLemmas.{may_go_less}

module _ (script : ScriptModel) (clock : ClockId) (old : OpenerView) (is : IsOpener script clock old) (places : List ℕ)
    (way : Closing) (found : Found) (round : RoundNow) (bears : Bool) (b c : PenView)
    (round_is : round ≡ round_of script old.stand) (loaded : HasGone (silent (Load found) ∷ []) old.pen b)
    (seen : ScriptModel) (seen_is : seen ≡ script) (was : HasWeighed seen places (length places) round found way bears b c)
  where
    weighed : HasWeighed script places (length places) round found way bears b c
    weighed = subst (λ it. HasWeighed it places (length places) round found way bears b c) seen_is was

    pub still_opener : IsOpener script clock (record { pen = c; stand = old.stand })
    still_opener =
        waited_after script clock old c is found weighed.looks
        (weighed_gone script places round found way bears old.pen b c loaded weighed)

    weighs : Weighs script places (length places) (round_of script old.stand) found weighed.looks way bears
    weighs =
        subst (λ now. Weighs script places (length places) now found weighed.looks way bears) round_is weighed.weighs

    pub has_waited : bears ≡ false → HasWaited script way old (record { pen = c; stand = old.stand })
    has_waited none =
        record {
          found = found;
          looks = weighed.looks;
          refuted =
              subst (λ so. Weighs script places (length places) (round_of script old.stand) found weighed.looks way so) none
              weighs;
          gone = weighed_gone script places round found way bears old.pen b c loaded weighed;
          stand = refl;
        }

    module _ (is_open : is_round_open script old.stand ≡ true) where
      pub closing_room : MayGo c 1 0
      closing_room =
          let less = less_closed script old.stand (open_stand script old.stand is_open).left in
          may_go_less c _ _ 1 0 still_opener.room (omega (arith, less)) (omega arith)

      module _ (bear : bears ≡ true) (shown : Event) (changes : Change) (drawn : Found) (d : PenView)
          (shown_is : shown ≡ closing_event way) (changes_is : changes ≡ closing_change (closing_event way))
          (gone : HasGone (shows shown changes drawn ∷ []) c d) where
        borne_out : BearsOut script places (length places) (round_of script old.stand) found weighed.looks way
        borne_out =
            subst (λ so. Weighs script places (length places) (round_of script old.stand) found weighed.looks way so) bear
            weighs

        drew : HasGone (shows (closing_event way) (closing_change (closing_event way)) drawn ∷ []) c d
        drew =
            subst (λ change. HasGone (shows (closing_event way) change drawn ∷ []) c d) changes_is
            (subst (λ event. HasGone (shows event changes drawn ∷ []) c d) shown_is gone)

        pub has_closed : HasClosed script places way old (record {
          pen = d;
          stand = record old.stand { closings = old.stand.closings + 1; restarted = false };
        })
        has_closed =
            record {
              found = found;
              looks = weighed.looks;
              drawn = drawn;
              bears = borne_out;
              gone = closing_gone script places round found way bears old.pen b c loaded weighed drawn d drew;
              stand = refl;
            }

        pub closed_opener : length places ≡ lane_count script → AreStartedAt script (lists_of old.pen.seat) places →
            NoneStops (lists_of old.pen.seat (reactor_lane script)) →
            IsOpener script clock (record {
              pen = d;
              stand = record old.stand { closings = old.stand.closings + 1; restarted = false };
            })
        closed_opener count started none =
            closed_after script clock old d is places way found weighed.looks is_open count
            (λ lane place there less. started lane there place less) drawn none borne_out
            (closing_gone script places round found way bears old.pen b c loaded weighed drawn d drew)
