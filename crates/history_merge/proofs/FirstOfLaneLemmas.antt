-- No ready operation of a lane goes before the one that was noted at the lane's next place.
use Rattle.std.proofs.Common.{◌≡◌, ◌≢◌, ℕ, suc, ◌<◌, ◌≤◌, Bool, true, false, cond, List, Option, Some, None, inl, inr, length, refl, sym, ap, ap₂, subst, ◌∙◌, arith, ltb-true}
use Rattle.std.specs.Prelude.{nat_lt, slice_get}
use Rattle.std.proofs.lemmas.Bool.{cases_eq}
use mathlib.Core.Option.{some-injective}
use lib.ListN.{get_elem?}
use Rattle.asio_types.specs.declared.code.Code.{Code}
use Rattle.asio_types.specs.declared.code.Code.TheVariants as code
use Rattle.asio_types.specs.declared.event.Event.{Event}
use Rattle.asio_types.specs.declared.event.Event.TheVariants as event
use Rattle.session_script.specs.declared.act.Act.{Act}
use Rattle.session_script.specs.declared.act.Act.TheVariants as act
use Rattle.session_script.specs.Script.{Entry, ScriptModel, is_op, is_operation, is_stop, stops}
use Rattle.session_script.specs.Lanes.{is_inline, lane_of}
use Rattle.session_script.specs.WellFormed.{IsWellFormed}
use Rattle.history_rules.specs.Kinds.{is_act, is_control, is_posting}
use Rattle.history_rules.specs.Order.{IsFirstOfLane, called_at, goes_before, is_back_before, is_before, is_ready_before}
use Rattle.history_rules.specs.State.{State, act_at, call_at, phase_at}
use Rattle.history_rules.specs.declared.phase.ActPhase.{ActPhase}
use Rattle.history_rules.specs.declared.phase.ActPhase.TheVariants as phase
use Rattle.history_rules.specs.declared.phase.CallPhase.{CallPhase}
use Rattle.history_rules.specs.declared.phase.CallPhase.TheVariants as call
use Rattle.history_rules.specs.declared.phase.Cause.{Cause}
use Rattle.history_rules.specs.declared.phase.Cause.TheVariants as cause
use Rattle.lane_clock.specs.declared.found.Change.{Change}
use Rattle.lane_clock.specs.declared.found.Change.TheVariants as change
use Rattle.lane_clock.specs.declared.found.Found.{Found}
use Rattle.lane_clock.specs.declared.note.Note.{Note}
use Rattle.lane_clock.specs.History.{ClockEvent, steps_under}
use Rattle.lane_clock.proofs.MomentLemmas.{Tail}
use Rattle.lane_map.specs.LaneNumbers.{act_passes, asks_its_lane, home_lane, lane_number, reactor_lane}
use Rattle.lane_logs.specs.Labels.{Labelled, allots, shows}
use Rattle.lane_logs.specs.Logs.{AreLogs, LogsView}
use Rattle.lane_logs.specs.Names.{SessionNames}
use Rattle.lane_logs.specs.SeatNumbers.{lane_count}
use Rattle.lane_logs.proofs.RequestLemmas.{posting_asks}
use Rattle.history_merge.proofs.AlikeLemmas.{is_not, never}
use Rattle.history_merge.proofs.AskedLemmas.{IsAskedPlace, asked_label}
use Rattle.history_merge.proofs.CountedLemmas.{counted_in, is_counted}
use Rattle.history_merge.proofs.DatesLemmas.{IsShownAt, IsTurnBefore, StandsTold, is_over, is_past, is_start, is_told}
use Rattle.history_merge.proofs.EachLabelLemmas.{is_of_turn}
use Rattle.history_merge.proofs.HalfLemmas.{off_turn}
use Rattle.history_merge.proofs.HistoryLemmas.{AreLabelled, shown_in}
use Rattle.history_merge.proofs.LabellingLemmas.{AreLabels}
use Rattle.history_merge.proofs.NoteLemmas.{IsCallNote, IsDoneNote, IsNoted, call_note_op}
use Rattle.execution_laws.specs.Ready.{is_ready}
use Rattle.history_rules.specs.Rounds.{is_unspent}
use Rattle.history_merge.proofs.FirstLemmas.{IsCalledBefore, back_before, called_before, placed_by}
use Rattle.history_merge.proofs.SoLemmas.{IsSo, events_so, state_so}
use Rattle.history_merge.proofs.StagedLemmas.{labelled_to, reactor_within, seats, sound_to}
use Rattle.history_merge.proofs.TimeLemmas.{IsBefore, IsMade, before_by_count, before_by_index, count_before, made_of, made_shown, made_there, made_within, places_rise, shown_before, shown_made}
use Rattle.history_merge.proofs.ToldLemmas.{done_at}

-- both are ready, and the first is before the second
pub record BothReady (first : CallPhase) (one : ActPhase) (second : CallPhase) (two : ActPhase) : Type 0 where
  pub given : Code
  pub size : ℕ
  pub why : Cause
  pub other : Code
  pub most : ℕ
  pub because : Cause
  pub first_is : one ≡ phase.Ready given size why
  pub second_is : two ≡ phase.Ready other most because
  pub before : is_before first why second because ≡ true

both_ready : (first : CallPhase) (one : ActPhase) (second : CallPhase) (two : ActPhase) →
    is_ready_before first one second two ≡ true → BothReady first one second two
both_ready first (phase.Ready given size why) second (phase.Ready other most because) is = record {
  given = given;
  size = size;
  why = why;
  other = other;
  most = most;
  because = because;
  first_is = refl;
  second_is = refl;
  before = is;
}
both_ready first one second two is = absurd (cc)

op_no_stop : (it : Act) → is_operation it ≡ true → is_stop it ≡ false
op_no_stop act.Stop is = absurd (cc)
op_no_stop other is = refl

posting_by : (inline posting operation control : Bool) (given : Code) (size : ℕ) → inline ≡ false →
    cond inline phase.Inside (cond posting (phase.Ready code.Ok 0 cause.Posted)
    (cond operation phase.Requested (cond control phase.Asked phase.Absent))) ≡ phase.Ready given size cause.Posted →
    posting ≡ true
posting_by true posting operation control given size out is = absurd (cc)
posting_by false true operation control given size out is = refl
posting_by false false true control given size out is = absurd (cc)
posting_by false false false true given size out is = absurd (cc)
posting_by false false false false given size out is = absurd (cc)

start_of_turn : (first : Event) → is_start first ≡ true → is_of_turn first ≡ true
start_of_turn (event.Take a) is = refl
start_of_turn (event.Tick at) is = refl
start_of_turn event.Last is = refl
start_of_turn (event.Stop None) is = absurd (cc)
start_of_turn (event.Stop (Some a)) is = absurd (cc)
start_of_turn (event.Done o given size) is = refl
start_of_turn event.Fault is = refl
start_of_turn other is = absurd (cc)

start_is_counted : (first : Event) → is_start first ≡ true → is_counted first ≡ true
start_is_counted (event.Stop None) is = absurd (cc)
start_is_counted (event.Stop (Some a)) is = refl
start_is_counted other is = refl

module _ (names : SessionNames) (well : IsWellFormed names.script) (logs : LogsView) (labels : ℕ → List Labelled)
    (logged : AreLogs names logs) (are : AreLabels names logs labels) (es : List ClockEvent)
    (tail : Tail es logged.closed.history) (so : IsSo names logs labels are es) where
  abbrev script : ScriptModel
  script = names.script

  abbrev r : ℕ
  r = reactor_lane names.script

  abbrev s : State
  s = state_so names logs labels are es

  abbrev all : AreLabelled labels es
  all = labelled_to names well logs labels logged are es tail

  abbrev within : reactor_lane names.script < lane_count names.script
  within = reactor_within names well logs labels logged are

  -- an event of a turn was shown by the reactor
  record IsTurnShown (shown : Event) (count : ℕ) : Type 0 where
    changes : Change
    found : Found
    made : IsMade labels es (reactor_lane names.script) (shows shown changes found)
    counts : counted_in (shown_in labels made.older) ≡ count

  turn_shown : (shown : Event) (count : ℕ) → is_of_turn shown ≡ true → IsShownAt (events_so names logs labels are es) shown count →
      IsTurnShown shown count
  turn_shown shown count turns at =
      let by = shown_made labels es shown count at in
      elim (cases_eq by.number r) [
        | inl same ↦ at_number by.number same by.changes by.found by.made by.counts
        | inr away ↦
            absurd (let there = made_there labels es all by.number (shows shown by.changes by.found) by.made in
            let off =
            off_turn names logs labels are by.number (length (steps_under by.number by.made.older))
            (shows shown by.changes by.found) there away in
            never (is_of_turn shown) off turns)
      ]
    where
      at_number : (number : ℕ) → number ≡ r → (changes : Change) (found : Found) →
          (made : IsMade labels es number (shows shown changes found)) → counted_in (shown_in labels made.older) ≡ count →
          IsTurnShown shown count
      at_number number same changes found =
          subst (λ number.
          (made : IsMade labels es number (shows shown changes found)) → counted_in (shown_in labels made.older) ≡ count →
          IsTurnShown shown count) (sym same)
          (λ made counts. record { changes = changes; found = found; made = made; counts = counts })

  -- what the reactor made before another of its labels stands before it
  index_before : (one two : Labelled) (first : IsMade labels es (reactor_lane names.script) one)
      (second : IsMade labels es (reactor_lane names.script) two) →
      IsBefore labels es (reactor_lane names.script) (reactor_lane names.script) one two first second →
      length (steps_under (reactor_lane names.script) first.older) < length (steps_under (reactor_lane names.script) second.older)
  index_before one two first second before =
      made_within labels second.older r one
      (record { e = first.e; older = first.older; tail = before; by = first.by; is = first.is })

  -- an event that it showed before a completion stands before the place that that got
  before_place : (shown other : Event) (changes more : Change) (found drawn : Found) (x lane place : ℕ)
      (first : IsMade labels es (reactor_lane names.script) (shows shown changes found))
      (told : IsMade labels es (reactor_lane names.script) (shows other more drawn))
      (placed : IsMade labels es (reactor_lane names.script) (allots x lane place)) →
      length (steps_under (reactor_lane names.script) told.older)
      ≡ suc (length (steps_under (reactor_lane names.script) placed.older)) →
      counted_in (shown_in labels first.older) < counted_in (shown_in labels told.older) →
      length (steps_under (reactor_lane names.script) first.older) < length (steps_under (reactor_lane names.script) placed.older)
  before_place shown other changes more found drawn x lane place first told placed next less =
      let before = before_by_count labels es r r (shows shown changes found) (shows other more drawn) first told less in
      let index = index_before (shows shown changes found) (shows other more drawn) first told before in
      let apart : length (steps_under r first.older) ≢ length (steps_under r placed.older) = λ same.
      let wrong : shows shown changes found ≡ allots x lane place =
      some-injective (shows shown changes found) (allots x lane place)
      (sym (made_there labels es all r (shows shown changes found) first)
      ∙ (ap (get_elem? (labels r)) same ∙ made_there labels es all r (allots x lane place) placed)) in
      cc in
      omega (arith, index, next, apart)

  -- an operation that completed got its place in the reactor's list right before
  record IsPlacedDone (x count : ℕ) : Type 0 where
    changes : Change
    found : Found
    given : Code
    size : ℕ
    place : ℕ
    told : IsMade labels es (reactor_lane names.script) (shows (event.Done x given size) changes found)
    made : IsMade labels es (reactor_lane names.script) (allots x (home_lane names.script x) place)
    next : length (steps_under (reactor_lane names.script) told.older)
        ≡ suc (length (steps_under (reactor_lane names.script) made.older))
    counts : counted_in (shown_in labels told.older) ≡ count
    before : counted_in (shown_in labels made.older) ≤ count

  placed_done : (x : ℕ) (given : Code) (size count : ℕ) →
      IsShownAt (events_so names logs labels are es) (event.Done x given size) count → IsPlacedDone x count
  placed_done x given size count at =
      let by = turn_shown (event.Done x given size) count refl at in
      let there = made_there labels es all r (shows (event.Done x given size) by.changes by.found) by.made in
      let done =
      done_at names logs labels are within (length (steps_under r by.made.older)) x given size by.changes by.found there in
      let next = done.next in
      let most = made_within labels es r (shows (event.Done x given size) by.changes by.found) by.made in
      let placed =
      made_of labels es all r done.before (allots x (home_lane script x) done.place) done.there (omega (arith, next, most)) in
      let index = placed.1 in
      let first =
      before_by_index labels es r r (allots x (home_lane script x) done.place)
      (shows (event.Done x given size) by.changes by.found) placed.0 by.made refl (omega (arith, next, index)) in
      let less =
      count_before labels es r r (allots x (home_lane script x) done.place)
      (shows (event.Done x given size) by.changes by.found) placed.0 by.made first in
      let counts = by.counts in
      record {
        changes = by.changes;
        found = by.found;
        given = given;
        size = size;
        place = done.place;
        told = by.made;
        made = placed.0;
        next = done.next ∙ ap suc (sym placed.1);
        counts = by.counts;
        before = omega (arith, less, counts);
      }

  -- the noted operation is ready, and of each act that got an earlier place of the lane the handler is past
  module _ (n k : ℕ) (note : Note) (away : n ≢ reactor_lane names.script) (home : home_lane names.script note.op ≡ n)
      (noted : IsNoted names logs labels are within es n k note)
      (passed : (x number p : ℕ) → p < k → IsMade labels es number (allots x n p) → is_past (phase_at s.context x) ≡ true)
    where
      finish : (x : ℕ) → is_past (phase_at s.context x) ≡ false → (number p lane : ℕ) → lane ≡ n →
          (m : ℕ) (second : IsMade labels es m (allots note.op n k)) (made : IsMade labels es number (allots x lane p)) →
          IsBefore labels es number m (allots x lane p) (allots note.op n k) made second → ⊥
      finish x isnt number p lane same m second =
          subst (λ lane.
          (made : IsMade labels es number (allots x lane p)) →
          IsBefore labels es number m (allots x lane p) (allots note.op n k) made second → ⊥) (sym same)
          (λ made before.
          let lesser =
          places_rise labels n names.script.guards (seats names well logs labels logged are) es
          (sound_to names well logs labels logged are es tail) all number m x note.op p k made second before in
          never (is_past (phase_at s.context x)) isnt (passed x number p lesser made))

      -- a posting before it
      posted_first : (x : ℕ) (placed_lane number p b count m : ℕ) → is_past (phase_at s.context x) ≡ false → placed_lane ≡ n →
          (second : IsMade labels es m (allots note.op n k)) → counted_in (shown_in labels second.older) ≡ count →
          (made : IsMade labels es number (allots x placed_lane p)) → counted_in (shown_in labels made.older) ≤ b → b < count → ⊥
      posted_first x placed_lane number p b count m isnt same second counts made most less =
          finish x isnt number p placed_lane same m second made
          (before_by_count labels es number m (allots x placed_lane p) (allots note.op n k) made second
          (omega (arith, counts, most, less)))

      -- where the note's operation was called, or completed
      module _ (x : ℕ) (on : lane_of names.script x ≡ lane_of names.script note.op)
          (both : BothReady (call_at s.context x) (phase_at s.context x) (call_at s.context note.op) (phase_at s.context note.op)) where
        isnt_past : is_past (phase_at s.context x) ≡ false
        isnt_past = ap is_past both.first_is

        x_op : is_op script x ≡ true
        x_op = by (is_op script x) refl
          where
            by : (b : Bool) → is_op script x ≡ b → is_op script x ≡ true
            by true is = is
            by false isnt =
                absurd (never (is_unspent (phase_at s.context x)) ((so.state.kinds x).spent isnt) (ap is_unspent both.first_is))

        x_out : is_inline script x ≡ false
        x_out =
            is_not (is_inline script x)
            (λ inside. never (is_ready (phase_at s.context x)) ((so.state.kinds x).inline inside) (ap is_ready both.first_is))

        x_going : stops script x ≡ false
        x_going = by_entry (slice_get script.acts x) refl
          where
            by_entry : (found : Option Entry) → slice_get script.acts x ≡ found → stops script x ≡ false
            by_entry None stands = rw stands refl
            by_entry (Some e) stands =
                let is : is_op script x ≡ is_operation e.act = rw stands refl in
                let halts : stops script x ≡ is_stop e.act = rw stands refl in
                halts ∙ op_no_stop e.act (sym is ∙ x_op)

        x_home : home_lane script x ≡ n
        x_home = ap (lane_number script) on ∙ home

        -- x was posted: where its call got its place
        x_lane : both.why ≡ cause.Posted → (c b : ℕ) → (back : call_at s.context x ≡ call.Back c b) →
            (placed_by names well logs labels logged are es tail so x c b x_going x_out back).lane ≡ n
        x_lane posted c b back =
            let placed = placed_by names well logs labels logged are es tail so x c b x_going x_out back in
            let ready : phase_at s.context x ≡ phase.Ready both.given both.size cause.Posted =
            both.first_is ∙ ap (λ why. phase.Ready both.given both.size why) posted in
            let accepts = sym ((so.state.kinds x).posted both.given both.size ready) ∙ ready in
            let posts : is_act is_posting script x ≡ true =
            posting_by (is_inline script x) (is_act is_posting script x) (is_act is_operation script x)
            (is_act is_control script x) both.given both.size x_out accepts in
            let asked : IsAskedPlace script x placed.lane =
            asked_label names well logs labels are placed.number (length (steps_under placed.number placed.made.older))
            (allots x placed.lane placed.place)
            (made_there labels es all placed.number (allots x placed.lane placed.place) placed.made) placed.away in
            asked.asks
            ∙ (ap (λ b. cond b (home_lane script x) (reactor_lane script)) (asks_lane posts) ∙ x_home)
          where
            asks_lane : is_act is_posting script x ≡ true → act_passes asks_its_lane script x ≡ true
            asks_lane posts = by_entry (slice_get script.acts x) refl
              where
                by_entry : (found : Option Entry) → slice_get script.acts x ≡ found → act_passes asks_its_lane script x ≡ true
                by_entry None stands =
                    absurd (let none : is_act is_posting script x ≡ false = rw stands refl in
                    never (is_act is_posting script x) none posts)
                by_entry (Some e) stands =
                    let is : act_passes asks_its_lane script x ≡ asks_its_lane e.act = rw stands refl in
                    let kind : is_act is_posting script x ≡ is_posting e.act = rw stands refl in
                    is ∙ (posting_asks e.act ∙ (sym kind ∙ posts))

        -- it was called: its cause is that it was posted
        pub by_call : IsCallNote names logs labels are within es n k note → ⊥
        by_call is = by_causes both.why both.because refl refl
          where
            own : IsCalledBefore names well logs labels logged are es tail so note.op (counted_in (shown_in labels is.placed.older))
            own = called_before names well logs labels logged are es tail so is.number note.op n k is.away is.placed

            posted_op : is_act is_posting script note.op ≡ true
            posted_op = (call_note_op names logs labels are within well es all n k note away is).posts

            by_causes : (why because : Cause) → both.why ≡ why → both.because ≡ because → ⊥
            by_causes why (cause.Completed d t) one two =
                let ready : phase_at s.context note.op ≡ phase.Ready both.other both.most (cause.Completed d t) =
                both.second_is ∙ ap (λ why. phase.Ready both.other both.most why) two in
                let caused = so.dates.caused note.op both.other both.most d t ready in
                let kind = so.dates.kind note.op both.other both.most d caused.0 in
                never (is_act is_posting script note.op) kind.unposted posted_op
            by_causes cause.Posted cause.Posted one two =
                let before : is_back_before (called_at (call_at s.context note.op)) (call_at s.context x) ≡ true =
                ap₂ (λ w v. is_before (call_at s.context x) w (call_at s.context note.op) v) (sym one) (sym two) ∙ both.before in
                let back = back_before (called_at (call_at s.context note.op)) (call_at s.context x) before in
                let placed = placed_by names well logs labels logged are es tail so x back.0 back.1 x_going x_out back.2 in
                let less = ltb-true back.1 (called_at (call_at s.context note.op)) back.3 in
                let later = own.before in
                posted_first x placed.lane placed.number placed.place back.1 (counted_in (shown_in labels is.placed.older)) is.number
                isnt_past (x_lane one back.0 back.1 back.2) is.placed refl placed.made placed.before (omega (arith, less, later))
            by_causes (cause.Completed d t) cause.Posted one two =
                let before : nat_lt d (called_at (call_at s.context note.op)) ≡ true =
                ap₂ (λ w v. is_before (call_at s.context x) w (call_at s.context note.op) v) (sym one) (sym two) ∙ both.before in
                let ready : phase_at s.context x ≡ phase.Ready both.given both.size (cause.Completed d t) =
                both.first_is ∙ ap (λ why. phase.Ready both.given both.size why) one in
                let placed = placed_done x both.given both.size d (so.dates.caused x both.given both.size d t ready).0 in
                let less = ltb-true d (called_at (call_at s.context note.op)) before in
                let later = own.before in
                posted_first x (home_lane script x) r placed.place d (counted_in (shown_in labels is.placed.older)) is.number isnt_past
                x_home is.placed refl placed.made placed.before (omega (arith, less, later))

        -- it completed: that is its cause
        stands_told : (given : Code) (size count : ℕ) (of : ActPhase) (other : Code) (most : ℕ) (because : Cause) →
            StandsTold given size count of → of ≡ phase.Ready other most because →
            (turn : ℕ) × (because ≡ cause.Completed count turn)
        stands_told given size count of other most because (is_over over) ready =
            absurd (let wrong : true ≡ false = sym over ∙ ap is_past ready in cc)
        stands_told given size count of other most because (is_told turn told) ready =
            let same : phase.Ready given size (cause.Completed count turn) ≡ phase.Ready other most because = sym told ∙ ready in
            let causes : cause.Completed count turn ≡ because = cc in
            (turn, sym causes)

        pub by_done : IsDoneNote names logs labels are within es n k note → ⊥
        by_done is = by_cause (stands_told note.code note.size count (phase_at s.context note.op) both.other both.most both.because
            (so.dates.told note.op note.code note.size count shown_told) both.second_is)
          where
            count : ℕ
            count = counted_in (shown_in labels is.told.older)

            shown_told : IsShownAt (events_so names logs labels are es) (event.Done note.op note.code note.size)
                (counted_in (shown_in labels is.told.older))
            shown_told = made_shown labels es r (event.Done note.op note.code note.size) change.Same is.found is.told

            by_posted : (t : ℕ) → both.because ≡ cause.Completed (counted_in (shown_in labels is.told.older)) t →
                both.why ≡ cause.Posted →
                IsTurnBefore (events_so names logs labels are es) (counted_in (shown_in labels is.told.older)) t → ⊥
            by_posted t two one turn =
                let before : is_back_before t (call_at s.context x) ≡ true =
                ap₂ (λ w v. is_before (call_at s.context x) w (call_at s.context note.op) v) (sym one) (sym two) ∙ both.before in
                let back = back_before t (call_at s.context x) before in
                let placed = placed_by names well logs labels logged are es tail so x back.0 back.1 x_going x_out back.2 in
                let less = ltb-true back.1 t back.3 in
                elim turn [
                  | inl zero_is ↦ absurd (omega (arith, less, zero_is))
                  | inr started ↦
                      let by = turn_shown started.0.first t (start_of_turn started.0.first started.0.starts) started.0.shown in
                      let counts = by.counts in
                      let earlier = started.1 in
                      let index =
                      before_place started.0.first (event.Done note.op note.code note.size) by.changes change.Same by.found is.found
                      note.op n k by.made is.told is.placed is.next (omega (arith, counts, earlier)) in
                      let first =
                      before_by_index labels es r r (shows started.0.first by.changes by.found) (allots note.op n k) by.made is.placed
                      refl index in
                      let later =
                      shown_before labels es r r (shows started.0.first by.changes by.found) (allots note.op n k) by.made is.placed
                      started.0.first by.changes by.found refl (start_is_counted started.0.first started.0.starts) first in
                      posted_first x placed.lane placed.number placed.place back.1 (counted_in (shown_in labels is.placed.older)) r
                      isnt_past (x_lane one back.0 back.1 back.2) is.placed refl placed.made placed.before
                      (omega (arith, less, counts, later))
                ]

            by_completed : (t d u : ℕ) → both.because ≡ cause.Completed (counted_in (shown_in labels is.told.older)) t →
                both.why ≡ cause.Completed d u → ⊥
            by_completed t d u two one =
                let before : nat_lt d (counted_in (shown_in labels is.told.older)) ≡ true =
                ap₂ (λ w v. is_before (call_at s.context x) w (call_at s.context note.op) v) (sym one) (sym two) ∙ both.before in
                let less = ltb-true d (counted_in (shown_in labels is.told.older)) before in
                let ready : phase_at s.context x ≡ phase.Ready both.given both.size (cause.Completed d u) =
                both.first_is ∙ ap (λ why. phase.Ready both.given both.size why) one in
                let placed = placed_done x both.given both.size d (so.dates.caused x both.given both.size d u ready).0 in
                let counts = placed.counts in
                let index =
                before_place (event.Done x placed.given placed.size) (event.Done note.op note.code note.size) placed.changes
                change.Same placed.found is.found note.op n k placed.told is.told is.placed is.next (omega (arith, counts, less)) in
                let next = placed.next in
                finish x isnt_past r placed.place (home_lane script x) x_home r is.placed placed.made
                (before_by_index labels es r r (allots x (home_lane script x) placed.place) (allots note.op n k) placed.made is.placed
                refl (omega (arith, index, next)))

            by_cause : ((t : ℕ) × (both.because ≡ cause.Completed (counted_in (shown_in labels is.told.older)) t)) → ⊥
            by_cause at = by_why both.why refl
              where
                by_why : (why : Cause) → both.why ≡ why → ⊥
                by_why cause.Posted one =
                    by_posted at.0 at.1 one
                    (so.dates.caused note.op both.other both.most (counted_in (shown_in labels is.told.older)) at.0
                    (both.second_is ∙ ap (λ why. phase.Ready both.other both.most why) at.1)).1
                by_why (cause.Completed d u) one = by_completed at.0 d u at.1 one

      -- so it is the first of its lane
      pub first_of_lane : IsFirstOfLane names.script s.context note.op
      first_of_lane x on =
          is_not (goes_before (act_at s.context x) (act_at s.context note.op)) (λ goes.
          let both =
          both_ready (call_at s.context x) (phase_at s.context x) (call_at s.context note.op) (phase_at s.context note.op) goes in
          elim noted [
            | inl is ↦ by_call x on both is
            | inr is ↦ by_done x on both is
          ])
