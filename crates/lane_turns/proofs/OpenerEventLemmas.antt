-- The opener after each that it draws.
use Rattle.std.proofs.Common.{◌≡◌, ◌≢◌, ℕ, ◌+◌, ◌<◌, true, false, List, [], ◌∷◌, ◌++◌, length, refl, sym, ap, subst, ◌∙◌, arith, append_assoc}
use Rattle.std.specs.Prelude.{map, slice_index}
use Rattle.std.proofs.lemmas.List.{append-nil}
use Rattle.std.proofs.lemmas.List.Elements.{All-take}
use Rattle.asio_types.specs.declared.event.Event.TheVariants as event
use Rattle.session_script.specs.Script.{ScriptModel, opening_of}
use Rattle.strand_core.specs.Execution.{events_of}
use Rattle.lane_clock.specs.declared.found.Change.TheVariants as change
use Rattle.lane_clock.specs.declared.found.Found.{Found}
use Rattle.lane_clock.specs.declared.step.ClockStep.TheVariants.{Load}
use Rattle.lane_clock.specs.Seats.{ClockId}
use Rattle.lane_clock.specs.Steps.{draw_count, place_count, step_count}
use Rattle.lane_map.specs.LaneNumbers.{reactor_lane}
use Rattle.lane_logs.specs.Cuts.{HasStarted, NoneStops, is_stop_draw}
use Rattle.lane_logs.specs.Knowing.{joined_count, lists_of}
use Rattle.lane_logs.specs.Labels.{Labelled, shows, silent, entries_in, steps_in}
use Rattle.lane_logs.specs.OpenerLog.{Closes, ClosedPart, IsPolledLane, Looked, OpenerPart, ReactorWorks, closed, opened, restarted, resting, closing_change, labels_of_opener, look_label, opener_steps, others_after}
use Rattle.lane_logs.specs.Stand.{draws_to_come, Stand, first_stand, is_round_open, stand_from, stand_of, wants_restart}
use Rattle.lane_logs.specs.Calls.{called_each}
use Rattle.lane_logs.specs.SeatNumbers.{lane_count}
use Rattle.lane_logs.proofs.OpeningLemmas.{called_sum, opening_calls}
use Rattle.lane_logs.proofs.StandLemmas.{IsOpenStand, less_closed, less_restarted, open_stand, opening_passed, stand_closed, stand_restarted, waiting_stand}
use Rattle.lane_turns.specs.declared.closing.Closing.{Closing}
use Rattle.lane_turns.specs.declared.closing.Closing.TheVariants as closing
use Rattle.lane_turns.specs.Closing.{AreSeenEmpty, BearsOut, closing_event}
use Rattle.lane_turns.specs.OpenerEvents.{closing_labels, weighing_labels}
use Rattle.lane_turns.specs.Openers.{IsOpener, OpenerView, is_running_at, round_of}
use Rattle.lane_turns.specs.Pens.{HasDrawnCalls, HasGone, MayGo, PenView}
use Rattle.lane_turns.proofs.DrawnLemmas.{AreSized, all_sized, drawn_quiet}
use Rattle.lane_turns.proofs.OpenerGrowingLemmas.{rested, rested_labels, rested_parts, same_others}
use Rattle.lane_turns.proofs.OpenerLemmas.{gone_grows, opener_goes_on, opener_knows, own_steps}
use Rattle.lane_turns.proofs.PenLemmas.{may_go_on}
use Rattle.lane_turns.proofs.SteppingLemmas.{knows_all}

-- looks take nothing in, show nothing and draw nothing
pub looks_quiet : (n : ℕ) (looks : List Looked) → joined_count n (steps_in (map look_label looks)) ≡ 0
looks_quiet n [] = refl
looks_quiet n (looked ∷ looks) = looks_quiet n looks

pub closing_quiet : (n : ℕ) (found drawn : Found) (looks : List Looked) (closing : Closing) →
    joined_count n (steps_in (closing_labels found looks closing drawn)) ≡ 0
closing_quiet n found drawn [] closing = refl
closing_quiet n found drawn (looked ∷ looks) closing = closing_quiet n found drawn looks closing

pub looks_entries : (looks : List Looked) (more : List Labelled) → entries_in (map look_label looks ++ more) ≡ entries_in more
looks_entries [] more = refl
looks_entries (looked ∷ looks) more = looks_entries looks more

pub looks_draws : (looks : List Looked) (more : List Labelled) →
    step_count draw_count (steps_in (map look_label looks ++ more)) ≡ step_count draw_count (steps_in more)
looks_draws [] more = refl
looks_draws (looked ∷ looks) more = omega (arith, looks_draws looks more)

looks_places : (looks : List Looked) (more : List Labelled) →
    step_count place_count (steps_in (map look_label looks ++ more)) ≡ step_count place_count (steps_in more)
looks_places [] more = refl
looks_places (looked ∷ looks) more = omega (arith, looks_places looks more)

looks_stand : (script : ScriptModel) (stand : Stand) (looks : List Looked) (more : List Labelled) →
    stand_from script stand (steps_in (map look_label looks ++ more)) ≡ stand_from script stand (steps_in more)
looks_stand script stand [] more = refl
looks_stand script stand (looked ∷ looks) more = looks_stand script stand looks more

module _ (script : ScriptModel) (clock : ClockId) (old : OpenerView) (pen : PenView) (is : IsOpener script clock old) where
  stands : old.stand ≡ stand_of script (opener_steps is.log.parts)
  stands = is.stand_is ∙ ap (stand_of script) (own_steps script clock old is)

  -- what the opener knew of a number it still knows, and the reactor hasn't failed in that
  module _ (labels : List Labelled) (gone : HasGone labels old.pen pen)
      (quiet : (n : ℕ) → joined_count n (steps_in labels) ≡ 0) where
    knew : (n : ℕ) →
        others_after script (lists_of old.pen.seat) is.log.parts n
        ≡ others_after script (lists_of pen.seat) is.log.parts n
    knew n =
        same_others script (lists_of old.pen.seat) (lists_of pen.seat)
        (gone_grows script clock old is pen labels gone quiet) is.log.parts
        (opener_knows script clock old is (lists_of pen.seat) (gone_grows script clock old is pen labels gone quiet)) n

    works : NoneStops (lists_of old.pen.seat (reactor_lane script)) →
        ReactorWorks script (lists_of pen.seat) is.log.parts
    works none =
        subst NoneStops (knew (reactor_lane script))
        (All-take (λ step. is_stop_draw step ≡ false) _ (lists_of old.pen.seat (reactor_lane script)) none)

    knew_lane : (lane : ℕ) → lane < lane_count script →
        lists_of old.pen.seat lane ≡ others_after script (lists_of pen.seat) is.log.parts lane
    knew_lane lane there =
        let apart : lane ≢ old.pen.seat.number = λ same. absurd (omega (arith, same, is.number, there)) in
        sym (knows_all lane (lists_of old.pen.seat lane) (opener_steps is.log.parts)
        (ap (joined_count lane) (sym (own_steps script clock old is)) ∙ is.known.others lane apart))
        ∙ knew lane

  pub opened_after : old.pen.log ≡ [] → old.stand ≡ first_stand script →
      HasDrawnCalls script (called_each (opening_of script)) old.pen pen →
      IsOpener script clock (record { pen = pen; stand = record old.stand { opening = 0 } })
  opened_after none first drawn =
      let size : AreSized script (called_each (opening_of script)) drawn.labels = all_sized script drawn.drawn in
      let count : length (events_of script (called_each (opening_of script))) ≡ old.stand.opening =
      called_sum script (opening_of script) ∙ ap (λ (s : Stand). s.opening) (sym first) in
      let room : MayGo pen (draws_to_come script (record old.stand { opening = 0 })) 0 =
      may_go_on drawn.labels _ _ (draws_to_come script (record old.stand { opening = 0 })) 0 old.pen pen drawn.gone
      is.room (omega (arith, size.entries, count)) (omega (arith, size.draws, count))
      (omega (arith, size.places, count)) in
      opener_goes_on script clock old is pen drawn.labels drawn.gone (λ n. drawn_quiet script n drawn.drawn)
      (record old.stand { opening = 0 }) (opened (called_each (opening_of script)) drawn.labels ∷ is.log.parts)
      (λ are.
      (are, record { first = sym is.log.shown ∙ none; acts = opening_calls script; drawn = drawn.drawn }))
      refl (sym (opening_passed script (steps_in drawn.labels) old.stand 0 (omega (arith, size.draws, count)))) room

  pub restarted_after : (found : Found) → old.stand.opening ≡ 0 → wants_restart script old.stand ≡ true →
      NoneStops (lists_of old.pen.seat (reactor_lane script)) →
      HasGone (shows event.Restart change.Same found ∷ []) old.pen pen →
      IsOpener script clock (record {
        pen = pen;
        stand = record old.stand { restarted = true; base = found.stops };
      })
  restarted_after found opening wanted none gone =
      let labels : List Labelled = shows event.Restart change.Same found ∷ [] in
      let less = less_restarted script old.stand found.stops (waiting_stand script old.stand wanted) in
      opener_goes_on script clock old is pen labels gone (λ n. refl)
      (record old.stand { restarted = true; base = found.stops }) (restarted found ∷ is.log.parts)
      (λ are. (
        are,
        record {
          opened = ap (λ (s : Stand). s.opening) (sym stands) ∙ opening;
          wanted = ap (wants_restart script) (sym stands) ∙ wanted;
          working = works labels gone (λ n. refl) none;
        },
      ))
      refl (sym (stand_restarted script old.stand found opening wanted))
      (may_go_on labels _ _ (draws_to_come script (record old.stand { restarted = true; base = found.stops }))
      old.stand.opening old.pen pen gone is.room (omega (arith, less)) (omega (arith, less)) (omega arith))

  -- the opener found what bears a closing out
  module _ (places : List ℕ) (shown : Closing) (found : Found) (looks : List Looked)
      (is_open : is_round_open script old.stand ≡ true)
      (count : length places ≡ lane_count script)
      (started : (lane place : ℕ) → lane < lane_count script → place < slice_index places lane →
      HasStarted (lists_of old.pen.seat lane) lane place) where
    stood : IsOpenStand script old.stand
    stood = open_stand script old.stand is_open

    base_is : (round_of script old.stand).base ≡ (stand_of script (opener_steps is.log.parts)).base
    base_is = stood.base ∙ ap (λ (s : Stand). s.base) stands

    module _ (drawn : Found) (gone : HasGone (closing_labels found looks shown drawn) old.pen pen) where
      abbrev part : ClosedPart
      part = record { load = found; looks = looks; shown = closing_event shown; drawn = drawn }

      empty_next : AreSeenEmpty script places (length places) looks → (lane : ℕ) → lane < lane_count script →
          IsPolledLane script (lists_of pen.seat) is.log.parts looks lane
      empty_next empty lane there =
          record {
            next = slice_index places lane;
            started =
                λ place less.
                subst (λ steps. HasStarted steps lane place)
                (knew_lane (closing_labels found looks shown drawn) gone
                (λ n. closing_quiet n found drawn looks shown) lane there)
                (started lane place there less);
            empty = empty lane (omega (arith, there, count));
          }

    borne : (way : Closing) (drawn : Found) (gone : HasGone (closing_labels found looks shown drawn) old.pen pen) →
        BearsOut script places (length places) (round_of script old.stand) found looks way →
        Closes script (lists_of pen.seat) is.log.parts (part drawn gone) (closing_event way)
    borne closing.Ended drawn gone bears = record { going = bears.0 ∙ base_is; idle = bears.1 }
    borne closing.Stopped drawn gone bears = λ same. bears (same ∙ sym base_is)
    borne closing.Polled drawn gone bears =
        record {
          polls = ap (is_running_at script) (sym stands) ∙ bears.0;
          going = bears.1 ∙ base_is;
          left = bears.2;
          lanes = empty_next drawn gone bears.3;
        }

    pub closed_after : (drawn : Found) → NoneStops (lists_of old.pen.seat (reactor_lane script)) →
        BearsOut script places (length places) (round_of script old.stand) found looks shown →
        HasGone (closing_labels found looks shown drawn) old.pen pen →
        IsOpener script clock (record {
          pen = pen;
          stand = record old.stand { closings = old.stand.closings + 1; restarted = false };
        })
    closed_after drawn none bears gone =
        let labels : List Labelled = closing_labels found looks shown drawn in
        let quiet : (n : ℕ) → joined_count n (steps_in labels) ≡ 0 =
        λ n. closing_quiet n found drawn looks shown in
        let last : List Labelled = shows (closing_event shown) (closing_change (closing_event shown)) drawn ∷ [] in
        let less = less_closed script old.stand stood.left in
        opener_goes_on script clock old is pen labels gone quiet
        (record old.stand { closings = old.stand.closings + 1; restarted = false })
        (closed (part drawn gone) ∷ is.log.parts)
        (λ are. (
          are,
          record {
            round = ap (is_round_open script) (sym stands) ∙ is_open;
            working = works labels gone quiet none;
            closes = borne shown drawn gone bears;
          },
        ))
        refl (sym (looks_stand script old.stand looks last ∙ stand_closed script old.stand drawn stood))
        (may_go_on labels _ _
        (draws_to_come script (record old.stand { closings = old.stand.closings + 1; restarted = false }))
        old.stand.opening old.pen pen gone is.room (omega (arith, less, ap length (looks_entries looks last)))
        (omega (arith, less, looks_draws looks last)) (omega (arith, looks_places looks last)))

  -- the opener loaded and looked alone
  pub waited_after : (found : Found) (looks : List Looked) → HasGone (weighing_labels found looks) old.pen pen →
      IsOpener script clock (record { pen = pen; stand = old.stand })
  waited_after found looks gone =
      let rest : List OpenerPart = rested (resting (Load found) ∷ is.log.parts) looks in
      let none = append-nil (map look_label looks) in
      let entries : entries_in (map look_label looks) ≡ [] =
      ap entries_in (sym none) ∙ looks_entries looks [] in
      let draws : step_count draw_count (steps_in (map look_label looks)) ≡ 0 =
      ap (λ xs. step_count draw_count (steps_in xs)) (sym none) ∙ looks_draws looks [] in
      let placed : step_count place_count (steps_in (map look_label looks)) ≡ 0 =
      ap (λ xs. step_count place_count (steps_in xs)) (sym none) ∙ looks_places looks [] in
      let stand : stand_from script old.stand (steps_in (map look_label looks)) ≡ old.stand =
      ap (λ xs. stand_from script old.stand (steps_in xs)) (sym none) ∙ looks_stand script old.stand looks [] in
      opener_goes_on script clock old is pen (weighing_labels found looks) gone (λ n. looks_quiet n looks) old.stand rest
      (λ are. rested_parts script (lists_of pen.seat) (resting (Load found) ∷ is.log.parts) looks (are, tt))
      (rested_labels (resting (Load found) ∷ is.log.parts) looks
      ∙ append_assoc (labels_of_opener is.log.parts) (silent (Load found) ∷ []) (map look_label looks)) (sym stand)
      (may_go_on (weighing_labels found looks) _ _ (draws_to_come script old.stand) old.stand.opening old.pen pen gone
      is.room (omega (arith, ap length entries)) (omega (arith, draws)) (omega (arith, placed)))

  -- looks by themselves
  pub looked_after : (looks : List Looked) → HasGone (map look_label looks) old.pen pen →
      IsOpener script clock (record { pen = pen; stand = old.stand })
  looked_after looks gone =
      let none = append-nil (map look_label looks) in
      let entries : entries_in (map look_label looks) ≡ [] =
      ap entries_in (sym none) ∙ looks_entries looks [] in
      let draws : step_count draw_count (steps_in (map look_label looks)) ≡ 0 =
      ap (λ xs. step_count draw_count (steps_in xs)) (sym none) ∙ looks_draws looks [] in
      let placed : step_count place_count (steps_in (map look_label looks)) ≡ 0 =
      ap (λ xs. step_count place_count (steps_in xs)) (sym none) ∙ looks_places looks [] in
      let stand : stand_from script old.stand (steps_in (map look_label looks)) ≡ old.stand =
      ap (λ xs. stand_from script old.stand (steps_in xs)) (sym none) ∙ looks_stand script old.stand looks [] in
      opener_goes_on script clock old is pen (map look_label looks) gone (λ n. looks_quiet n looks) old.stand
      (rested is.log.parts looks) (rested_parts script (lists_of pen.seat) is.log.parts looks)
      (rested_labels is.log.parts looks) (sym stand)
      (may_go_on (map look_label looks) _ _ (draws_to_come script old.stand) old.stand.opening old.pen pen gone
      is.room (omega (arith, ap length entries)) (omega (arith, draws)) (omega (arith, placed)))
