-- Time moves at an idle moment: where its load found no work but what the reactor has to complete and the guards, nothing
-- was ready, ran or waited, and until time moves only stops from outside come.
use Rattle.std.proofs.Common.{◌≡◌, ℕ, zero, suc, ◌+◌, ◌<◌, ◌≤◌, false, List, [], ◌∷◌, ◌++◌, inr, ⊎_elim, length, take, refl, sym, ap, subst, ◌∙◌, arith, length-append}
use Rattle.std.specs.Prelude.{slice_get}
use Rattle.std.proofs.lemmas.List.Elements.{All-from_get_or}
use lib.ListN.{get_elem?}
use Rattle.asio_types.specs.declared.event.Event.{Event}
use Rattle.asio_types.specs.declared.number.Lane.TheVariants as lane
use Rattle.session_script.specs.Script.{ScriptModel}
use Rattle.session_script.specs.WellFormed.{IsWellFormed}
use Rattle.history_rules.specs.Calls.{is_open}
use Rattle.history_rules.specs.Rounds.{IsDrained, RoundIsOpen, outstanding_work, runs}
use Rattle.history_rules.specs.State.{ReactorHalf, State, fresh}
use Rattle.history_rules.specs.Stopping.{MayStart}
use Rattle.history_rules.specs.Time.{IsIdle, pending_count}
use Rattle.lane_clock.specs.declared.found.Found.{Found}
use Rattle.lane_clock.specs.declared.step.ClockStep.TheVariants.{Load}
use Rattle.lane_clock.specs.History.{ClockEvent, steps_under, word_after}
use Rattle.lane_clock.specs.ClockWord.{found_of}
use Rattle.lane_clock.proofs.KnownLemmas.{event as made_event}
use Rattle.lane_clock.proofs.MomentLemmas.{Tail, sound_tail, tail_more, tail_refl, tail_trans, under_length}
use Rattle.lane_logs.specs.Half.{half_from, held_guards}
use Rattle.lane_logs.specs.Labels.{Labelled, allots, entries_in, shows, silent}
use Rattle.lane_logs.specs.Logs.{AreLogs, LogsView, session_layout}
use Rattle.lane_logs.specs.Names.{SessionNames}
use Rattle.lane_logs.specs.LaneLog.{opener_after}
use Rattle.lane_logs.specs.Parts.{Part, labels_in, looks_empty}
use Rattle.lane_logs.specs.ReactorTurns.{MayPass}
use Rattle.lane_logs.specs.SeatNumbers.{lane_count, opener_seat}
use Rattle.lane_logs.specs.Stand.{Stand, is_round_open, is_running_round, stand_of}
use Rattle.history_merge.proofs.BetweenLemmas.{IsOwnMoment, own_moment, stand_since}
use Rattle.history_merge.proofs.EachLabelLemmas.{empty_each}
use Rattle.history_merge.proofs.GoingLemmas.{round_known}
use Rattle.history_merge.proofs.LabellingLemmas.{AreLabels}
use Rattle.history_merge.proofs.LeftLemmas.{none_open}
use Rattle.history_merge.proofs.PartLemmas.{Every, all_made, at_seam, every-append, every_at}
use Rattle.history_merge.proofs.QuietLemmas.{IsQuietState, is_quiet_state}
use Rattle.history_merge.proofs.RestingLemmas.{IsResting}
use Rattle.history_merge.proofs.SinceLemmas.{half_within, kept_since, labelled_at}
use Rattle.history_merge.proofs.SoFarLemmas.{state_at, state_next, state_with}
use Rattle.history_merge.proofs.SoLemmas.{IsSo}
use Rattle.history_merge.proofs.StillLemmas.{IsStill, still_none, still_stopped}
use Rattle.history_merge.proofs.StoodLemmas.{HasStand, has_stand, round_is_open}
use Rattle.history_merge.proofs.TurnAtLemmas.{IsTurnAt, at_of, half_before, turn_draws, turn_half, turn_may, turn_rests}
use Rattle.history_merge.proofs.WordLemmas.{counts_of}

-- the label is a step by itself
abbrev pub IsSilent : Labelled → Type 0
IsSilent (silent step) = Unit {0}
IsSilent (shows shown changes found) = ⊥
IsSilent (allots act lane place) = ⊥

-- steps by themselves are no entries
pub silent_none : (xs : List Labelled) → Every IsSilent xs → entries_in xs ≡ []
silent_none [] all = refl
silent_none (silent step ∷ xs) all = silent_none xs all.1
silent_none (shows shown changes found ∷ xs) all = absurd all.0
silent_none (allots act at place ∷ xs) all = absurd all.0

pub silent_take : (k : ℕ) (xs : List Labelled) → Every IsSilent xs → Every IsSilent (take k xs)
silent_take zero xs all = tt
silent_take (suc k) [] all = tt
silent_take (suc k) (x ∷ xs) all = (all.0, silent_take k xs all.1)

module _ (names : SessionNames) (well : IsWellFormed names.script) (logs : LogsView) (labels : ℕ → List Labelled)
    (logged : AreLogs names logs) (are : AreLabels names logs labels) (e : ClockEvent) (es : List ClockEvent)
    (tail : Tail (e ∷ es) logged.closed.history) (within : e.by < lane_count names.script)
    (t : IsTurnAt names logs labels logged are e es tail within)
    (so : (a : List ClockEvent) → Tail a es → IsSo names logs labels are a)
    (is : t.before ≡ looks_empty names.script e.by t.part.place ++ silent (Load t.part.load) ∷ [])
    (shown : Event)
    (may : MayPass names.script (half_before names logs labels logged are e es tail within t)
    (is_running_round names.script (opener_after names (logs.lists (opener_seat names.script)) e.by t.earlier)) t.part.load
    shown) where
  abbrev script : ScriptModel
  script = names.script

  abbrev state : List ClockEvent → State
  state a = state_at script names.told labels a

  abbrev half : ReactorHalf
  half = half_before names logs labels logged are e es tail within t

  abbrev looks : List Labelled
  looks = looks_empty script e.by t.part.place

  all_silent : Every IsSilent t.before
  all_silent =
      subst (Every IsSilent) (sym is)
      (every-append IsSilent looks (silent (Load t.part.load) ∷ [])
      (empty_each IsSilent script e.by t.part.place tt) (tt, tt))

  -- when it loaded
  loaded : IsOwnMoment names logs labels logged are e es tail within
      (at_of names logs labels logged are e es tail within t) (turn_draws names logs labels logged are e es tail within t)
      (length looks) (silent (Load t.part.load))
  loaded =
      own_moment names logs labels logged are e es tail within (at_of names logs labels logged are e es tail within t)
      (turn_draws names logs labels logged are e es tail within t) (length looks) (silent (Load t.part.load))
      (ap (λ xs. get_elem? xs (length looks)) is ∙ at_seam looks (silent (Load t.part.load)) [])

  abbrev lo : List ClockEvent
  lo = loaded.older

  abbrev load_step : ClockEvent
  load_step = made_event e.by (Load t.part.load)

  older : Tail lo es
  older = tail_more lo load_step es loaded.since

  history : Tail lo logged.closed.history
  history = tail_trans lo es logged.closed.history older (tail_more es e logged.closed.history tail)

  -- the half of the reactor is the same there and here
  half_then : (state lo).reactor ≡ half
  half_then =
      let size : length t.before ≡ length looks + 1 = ap length is ∙ length-append looks (silent (Load t.part.load) ∷ []) in
      half_within names logs labels logged are e es tail within (at_of names logs labels logged are e es tail within t)
      (turn_draws names logs labels logged are e es tail within t)
      (turn_may names logs labels logged are e es tail within t).reactor lo history (length looks) loaded.index
      (omega (arith, size))
      ∙ ap (half_from script names.told half)
      (silent_none (take (length looks) t.before) (silent_take (length looks) t.before all_silent))

  half_now : (state es).reactor ≡ half
  half_now =
      turn_half names logs labels logged are e es tail within t
      ∙ ap (half_from script names.told half) (silent_none t.before all_silent)

  resting : IsResting half
  resting = turn_rests names logs labels logged are e es tail within t

  -- the load found the outstanding work
  work : outstanding_work (state lo) ≡ pending_count (state lo).reactor + held_guards (state lo).reactor
  work =
      let sound =
      sound_tail (session_layout script).guards (session_layout script).seats (load_step ∷ lo) logged.closed.history
      (tail_trans (load_step ∷ lo) es logged.closed.history loaded.since (tail_more es e logged.closed.history tail))
      logged.closed.sound in
      let found : t.part.load ≡ found_of (word_after script.guards lo) = sound.2 in
      let counts : t.part.load ≡ counts_of script names.told labels lo = found ∙ (so lo older).counts in
      sym (ap (λ (f : Found). f.work) counts)
      ∙ (may.idle ∙ ap (λ (r : ReactorHalf). pending_count r + held_guards r) (sym half_then))

  quiet : IsQuietState (state lo)
  quiet =
      let balanced = (so lo older).state.balanced (ap (λ (r : ReactorHalf). r.failed) half_then ∙ resting.works) in
      is_quiet_state (state lo) balanced.accounted.pending work

  -- a round is open since the part's begin
  abbrev known : Stand
  known = stand_of script (opener_after names (logs.lists (opener_seat script)) e.by t.earlier)

  stood : (a : List ClockEvent) → Tail a es →
      length (all_made Part (labels_in script e.by) t.earlier) ≤ length (steps_under e.by a) →
      stand_of script (steps_under (opener_seat script) a) ≡ known
  stood a made since =
      stand_since names logs labels logged are e es tail within (at_of names logs labels logged are e es tail within t)
      (turn_draws names logs labels logged are e es tail within t) a made since

  stands : (a : List ClockEvent) → Tail a es →
      HasStand script (stand_of script (steps_under (opener_seat script) a)) (state a).context
  stands a made =
      let behind = tail_trans a es logged.closed.history made (tail_more es e logged.closed.history tail) in
      has_stand names well logs labels logged are a behind (labelled_at names logs labels logged are a behind)

  opened : (a : List ClockEvent) → Tail a es →
      length (all_made Part (labels_in script e.by) t.earlier) ≤ length (steps_under e.by a) →
      RoundIsOpen script (state a).context
  opened a made since =
      round_is_open script (stand_of script (steps_under (opener_seat script) a)) (state a).context (stands a made)
      (ap (is_round_open script) (stood a made since)
      ∙ (round_known names logs labels logged are e es tail within (at_of names logs labels logged are e es tail within t)
      (turn_draws names logs labels logged are e es tail within t)).round)

  -- so at the load nothing goes on
  still_then : IsStill script (state lo)
  still_then =
      let round = opened lo older (omega (arith, loaded.index)) in
      record {
        quiet = quiet.quiet;
        still = quiet.still;
        outside = quiet.outside;
        back = none_open names well logs labels are lo (so lo older) quiet.still quiet.outside round.begun.opened;
        opened = round.begun.opened;
      }

  still_loaded : IsStill script (state (load_step ∷ lo))
  still_loaded =
      subst (IsStill script)
      (sym (state_next script names.told labels load_step lo
      ∙ ap (λ label. state_with script names.told label (state lo)) loaded.label)) still_then

  -- and nothing does here
  still_now : IsStill script (state es)
  still_now =
      let grown = under_length e.by lo (load_step ∷ lo) (inr (tail_refl lo)) in
      kept_since names logs labels logged are e es tail within (at_of names logs labels logged are e es tail within t)
      (turn_draws names logs labels logged are e es tail within t) (so es (tail_refl es)).legal
      (turn_may names logs labels logged are e es tail within t).reactor (IsStill script)
      (λ j shown changes found there s still.
      absurd (every_at IsSilent t.before all_silent j (shows shown changes found) there))
      (λ s shown happens others still.
      ⊎_elim (λ runs. absurd (still_none script names.told s still shown happens runs))
      (λ halts. still_stopped script names.told s still shown halts) others)
      (load_step ∷ lo) loaded.since (omega (arith, grown, loaded.index)) still_loaded

  module _ (allowed : MayStart (state es).context lane.Reactor) where
    pub is_idle : IsIdle script (state es)
    is_idle =
        let round = opened es (tail_refl es) (omega (arith, t.index)) in
        record {
          turn = record {
            round = round;
            working = ap (λ (r : ReactorHalf). r.failed) half_now ∙ resting.works;
            told = ap (λ (r : ReactorHalf). r.due) half_now ∙ resting.due;
            drained = subst IsDrained (sym half_now) resting.drained;
            allowed = allowed;
          };
          runs =
              ap (λ n. runs (slice_get script.rounds n))
              ((stands es (tail_refl es)).closings
              ∙ ap (λ (stand : Stand). stand.closings) (stood es (tail_refl es) (omega (arith, t.index))))
              ∙ may.runs;
          quiet = still_now.quiet;
          back =
              All-from_get_or (λ act. is_open act.call ≡ false) (state es).context.acts fresh (λ n less. still_now.back n);
          pending = subst (λ (r : ReactorHalf). 1 ≤ pending_count r) (sym half_now) may.pending;
        }
