-- Whole events of the opener: what of them is new, and that they are cuts.
use Rattle.std.proofs.Common.{◌≡◌, ◌⊎◌, ⊎_elim, inl, inr, ℕ, ◌+◌, List, [], ◌∷◌, ◌++◌, length, refl, sym, ap, subst, ◌∙◌, arith, length-append}
use Rattle.std.specs.Prelude.{map, slice_index}
use mathlib.Core.Logic.{dite}
use native.Mathlib.Decide.{ℕ_discrete}
use Rattle.std.proofs.lemmas.List.{append-nil}
use Rattle.std.proofs.lemmas.Option.{slice_get_cases, slice_get_within}
use Rattle.asio_types.specs.declared.event.Event.TheVariants as event
use Rattle.session_script.specs.Script.{ScriptModel, opening_of}
use Rattle.strand_core.specs.declared.posted.Posted.{Posted}
use Rattle.strand_core.specs.declared.posted.Posted.TheVariants as posted
use Rattle.lane_clock.specs.declared.found.Change.TheVariants as change
use Rattle.lane_clock.specs.declared.found.Found.{Found}
use Rattle.lane_clock.specs.declared.step.ClockStep.{ClockStep}
use Rattle.lane_clock.specs.declared.step.ClockStep.TheVariants.{Draw, Load, Place, Put, Look, Join}
use Rattle.lane_clock.specs.Knowledge.{StartOf}
use Rattle.lane_clock.specs.Seats.{ClockId, Remembers, SeatView, own}
use Rattle.lane_clock.specs.Steps.{draw_count, step_count}
use Rattle.lane_clock.proofs.KeepLemmas.{start_same, start_trans}
use Rattle.lane_logs.specs.Cuts.{EventsAreCuts, HasStarted}
use Rattle.lane_logs.specs.Knowing.{joined_count, lists_of}
use Rattle.lane_logs.specs.Labels.{AreDrawn, none_drawn, one_drawn, IsDrawn, begins, posts, dispatches, stops_context, returns, ends, Labelled, shows, entries_in, steps_in}
use Rattle.lane_logs.specs.OpenerLog.{AreOpenerParts, IsRestingStep, Looked, MayFollowOpened, OpenerPart, resting, opened, restarted, closed, closing_change, labels_of_opener, look_label, opener_labels, opener_steps}
use Rattle.lane_logs.specs.Calls.{called_each}
use Rattle.lane_logs.specs.SeatNumbers.{lane_count, opener_seat, worker_count}
use Rattle.lane_logs.specs.Stand.{first_stand}
use Rattle.lane_logs.proofs.OpeningLemmas.{called_sum}
use Rattle.lane_logs.proofs.LabelLemmas.{entries-append, steps-append}
use Rattle.lane_turns.specs.declared.closing.Closing.{Closing}
use Rattle.lane_turns.specs.Attending.{AreHeard, HasDrawnLast, HaveAttended}
use Rattle.lane_turns.specs.Benches.{AreLanes, AreStartedAt, AreWorkers, HaveAllMet, HaveAllStarted, IsRow, places_of}
use Rattle.lane_turns.specs.OpenerEvents.{HasClosed, HasOpened, HasRestarted, HasWaited, closing_labels, weighing_labels}
use Rattle.lane_turns.specs.Openers.{IsOpener, OpenerView}
use Rattle.lane_turns.specs.Pens.{HasGone}
use Rattle.lane_turns.proofs.AttendingLemmas.{on_and_on}
use Rattle.lane_turns.proofs.BenchLemmas.{place_at}
use Rattle.lane_turns.proofs.DrawnLastLemmas.{closing_last, drawn_last}
use Rattle.lane_turns.proofs.DrawnLemmas.{AreSized, all_sized, drawn_quiet}
use Rattle.lane_turns.proofs.EventCutLemmas.{HasDrawnEvent, at_row, cuts_go_on, cuts_held, cuts_on}
use Rattle.lane_turns.proofs.EventIndexLemmas.{event_last, event_opened, grown, none_there}
use Rattle.lane_turns.proofs.LaneStartedLemmas.{started_start}
use Rattle.lane_turns.proofs.MeetingLemmas.{met_number}
use Rattle.lane_turns.proofs.OpenerEventLemmas.{closing_quiet, looks_draws, looks_entries, looks_quiet}
use Rattle.lane_turns.proofs.OpenerLemmas.{gone_grows, own_steps}
use Rattle.lane_turns.proofs.PenLemmas.{step_count-append}
use Rattle.lane_turns.proofs.SteppingLemmas.{stepped_number}

-- the opener knows after its event what it knew before
drawn_remembers : (script : ScriptModel) (before after : SeatView) → before.number ≡ opener_seat script →
    HasDrawnLast before after → Remembers before after
drawn_remembers script before after number drawn n =
    dite (ℕ_discrete n (opener_seat script))
    (λ (here : n ≡ opener_seat script).
    subst (λ k. StartOf (lists_of before k) (lists_of after k)) (sym here) (grown script before after number drawn))
    (λ apart. start_same _ _ (sym (drawn.others n (λ same. apart (same ∙ number)))))

-- where nothing was ever drawn there is no event
no_cuts : (script : ScriptModel) (lists : ℕ → List ClockStep) →
    step_count draw_count (lists (opener_seat script)) ≡ 0 → EventsAreCuts script lists
no_cuts script lists none j n is below =
    absurd (none_there (lists (opener_seat script)) j is.shown is.changes is.found none is.drawn)

-- entries of the opener's log are as many as its draws
resting_sized : (step : ClockStep) → IsRestingStep step → draw_count step ≡ 0
resting_sized (Draw shown changes found) is = absurd is
resting_sized (Load found) is = refl
resting_sized (Place lane place) is = absurd is
resting_sized (Put lane place note) is = absurd is
resting_sized (Look lane place held) is = refl
resting_sized (Join taken) is = refl

part_sized : (script : ScriptModel) (lists : ℕ → List ClockStep) (parts : List OpenerPart) (part : OpenerPart) →
    MayFollowOpened script lists parts part →
    step_count draw_count (steps_in (opener_labels part)) ≡ length (entries_in (opener_labels part))
part_sized script lists parts (resting step) is = omega (arith, resting_sized step is)
part_sized script lists parts (opened calls labels) is =
    let size = all_sized script is.drawn in size.draws ∙ sym size.entries
part_sized script lists parts (restarted drawn) is = refl
part_sized script lists parts (closed part) is =
    let last : List Labelled = shows part.shown (closing_change part.shown) part.drawn ∷ [] in
    omega (arith, looks_draws part.looks last, ap length (looks_entries part.looks last))

parts_sized : (script : ScriptModel) (lists : ℕ → List ClockStep) (parts : List OpenerPart) →
    AreOpenerParts script lists parts →
    step_count draw_count (opener_steps parts) ≡ length (entries_in (labels_of_opener parts))
parts_sized script lists [] are = refl
parts_sized script lists (part ∷ parts) are =
    let front : List Labelled = labels_of_opener parts in
    let last : List Labelled = opener_labels part in
    let draws : step_count draw_count (steps_in (front ++ last))
    ≡ step_count draw_count (steps_in front) + step_count draw_count (steps_in last) =
    ap (step_count draw_count) (steps-append front last)
    ∙ step_count-append draw_count (steps_in front) (steps_in last) in
    let entries : length (entries_in (front ++ last)) ≡ length (entries_in front) + length (entries_in last) =
    ap length (entries-append front last) ∙ length-append (entries_in front) (entries_in last) in
    omega (arith, draws, entries, parts_sized script lists parts are.0, part_sized script lists parts part are.1)

pub none_drawn_yet : (script : ScriptModel) (clock : ClockId) (view : OpenerView) → IsOpener script clock view →
    view.pen.log ≡ [] → step_count draw_count (own view.pen.seat) ≡ 0
none_drawn_yet script clock view is none =
    ap (step_count draw_count) (own_steps script clock view is)
    ∙ parts_sized script (lists_of view.pen.seat) is.log.parts is.log.are ∙ ap length (sym is.log.shown ∙ none)

-- the calls of `open` end with a back
record EndsInBack (script : ScriptModel) (labels : List Labelled) : Type 0 where
  calls : List Posted
  front : List Labelled
  before : AreDrawn script calls front
  act : ℕ
  found : Found
  same : labels ≡ front ++ shows (event.Back act) change.Same found ∷ []

abbrev IsBack : Posted → Type 0
IsBack (posted.Begin op code size begun) = ⊥
IsBack (posted.Call act) = ⊥
IsBack (posted.Back act) = Unit {0}
IsBack (posted.End op ran) = ⊥

all_back : (acts : List ℕ) (front : List Posted) (call : Posted) → called_each acts ≡ front ++ call ∷ [] → IsBack call
all_back [] [] call is = absurd (cc)
all_back [] (x ∷ front) call is = absurd (cc)
all_back (act ∷ acts) [] call is = absurd (cc)
all_back (act ∷ acts) (x ∷ []) call is = let it : posted.Back act ≡ call = cc in subst IsBack it tt
all_back (act ∷ acts) (x ∷ y ∷ front) call is =
    let rest : called_each acts ≡ front ++ call ∷ [] = cc in all_back acts front call rest

ends_back : (script : ScriptModel) (calls : List Posted) (call : Posted) (front made : List Labelled) →
    AreDrawn script calls front → IsDrawn script call made → IsBack call → EndsInBack script (front ++ made)
ends_back script calls _ front _ before begins is = absurd is
ends_back script calls _ front _ before (posts going outside) is = absurd is
ends_back script calls _ front _ before (dispatches going inside) is = absurd is
ends_back script calls _ front _ before (stops_context stopping) is = absurd is
ends_back script calls _ front _ before (returns {act} {found}) is =
    record { calls = calls; front = front; before = before; act = act; found = found; same = refl }
ends_back script calls _ front _ before ends is = absurd is

opening_ends : (script : ScriptModel) {calls : List Posted} {labels : List Labelled} → AreDrawn script calls labels →
    ((front : List Posted) (call : Posted) → calls ≡ front ++ call ∷ [] → IsBack call) →
    (labels ≡ []) ⊎ EndsInBack script labels
opening_ends script none_drawn back = inl refl
opening_ends script (one_drawn {calls} {call} {labels} {made} before now) back =
    inr (ends_back script calls call labels made before now (back calls call refl))

-- after the calls of `open` nothing was drawn, or their last draw is an event
module _ (script : ScriptModel) (clock : ClockId) (before : OpenerView) (is : IsOpener script clock before)
    (first : OpenerView) (held : HasOpened script before first)
    (none : step_count draw_count (own before.pen.seat) ≡ 0) where
  all_draws : step_count draw_count (own first.pen.seat)
      ≡ step_count draw_count (steps_in held.drawn.labels)
  all_draws =
      let sum = ap (step_count draw_count) held.drawn.gone.steps
      ∙ step_count-append draw_count (own before.pen.seat) (steps_in held.drawn.labels) in
      omega (arith, sum, none)

  total : step_count draw_count (own first.pen.seat) ≡ (first_stand script).opening
  total =
      let size : AreSized script (called_each (opening_of script)) held.drawn.labels = all_sized script held.drawn.drawn in
      all_draws ∙ size.draws ∙ called_sum script (opening_of script)

  opened_event : (step_count draw_count (own first.pen.seat) ≡ 0) ⊎ HasDrawnEvent script before.pen.seat first.pen.seat
  opened_event =
      ⊎_elim
      (λ (empty : held.drawn.labels ≡ []). inl (all_draws ∙ ap (λ labels. step_count draw_count (steps_in labels)) empty))
      (λ (at : EndsInBack script held.drawn.labels).
      let last : HasDrawnLast before.pen.seat first.pen.seat =
      drawn_last at.front (event.Back at.act) change.Same at.found before.pen first.pen
      (λ n. drawn_quiet script n at.before)
      (subst (λ labels. HasGone labels before.pen first.pen) at.same held.drawn.gone) in
      inr (record {
        last = last;
        only = event_opened script before.pen.seat first.pen.seat is.number last total;
      }))
      (opening_ends script held.drawn.drawn (all_back (opening_of script)))

-- a draw by itself, and a closing
restarted_event : (script : ScriptModel) (before first : OpenerView) → before.pen.seat.number ≡ opener_seat script →
    HasRestarted before first → HasDrawnEvent script before.pen.seat first.pen.seat
restarted_event script before first number held =
    let last : HasDrawnLast before.pen.seat first.pen.seat =
    drawn_last [] event.Restart change.Same held.drawn before.pen first.pen (λ n. refl) held.gone in
    record { last = last; only = event_last script before.pen.seat first.pen.seat number last refl }

pub weighing_draws : (found : Found) (looks : List Looked) → step_count draw_count (steps_in (weighing_labels found looks)) ≡ 0
weighing_draws found looks =
    let none = ap (λ xs. step_count draw_count (steps_in xs)) (sym (append-nil (map look_label looks))) in
    omega (arith, none, looks_draws looks [])

closed_event : (script : ScriptModel) (places : List ℕ) (way : Closing) (before first : OpenerView) →
    before.pen.seat.number ≡ opener_seat script → HasClosed script places way before first →
    HasDrawnEvent script before.pen.seat first.pen.seat
closed_event script places way before first number held =
    let last : HasDrawnLast before.pen.seat first.pen.seat =
    closing_last held.found held.drawn held.looks way before.pen first.pen held.gone in
    record {
      last = last;
      only =
          event_last script before.pen.seat first.pen.seat number last (weighing_draws held.found held.looks);
    }

-- where the opener only loaded and looked
pub waited_cuts : (script : ScriptModel) (clock : ClockId) (way : Closing) (before first : OpenerView) →
    IsOpener script clock before → HasWaited script way before first → EventsAreCuts script (lists_of before.pen.seat) →
    EventsAreCuts script (lists_of first.pen.seat)
waited_cuts script clock way before first is held cuts =
    let labels : List Labelled = weighing_labels held.found held.looks in
    let remembers : Remembers before.pen.seat first.pen.seat =
    gone_grows script clock before is first.pen labels held.gone (λ n. looks_quiet n held.looks) in
    let o : ℕ = opener_seat script in
    let number : first.pen.seat.number ≡ before.pen.seat.number =
    ap (λ (seat : SeatView). seat.number) held.gone.seat ∙ stepped_number before.pen.seat (steps_in labels) in
    let sum = ap (step_count draw_count) held.gone.steps
    ∙ step_count-append draw_count (own before.pen.seat) (steps_in labels) in
    let mine : step_count draw_count (own first.pen.seat) ≡ step_count draw_count (own before.pen.seat) =
    omega (arith, sum, weighing_draws held.found held.looks) in
    cuts_on script before.pen.seat first.pen.seat remembers
    (ap (λ n. step_count draw_count (lists_of first.pen.seat n)) (sym (number ∙ is.number)) ∙ mine
    ∙ ap (λ n. step_count draw_count (lists_of before.pen.seat n)) is.number)
    cuts

-- seats keep their numbers
pub row_attended : {T : Type 0} (seat : T → SeatView) (script : ScriptModel) (first last : OpenerView) (start count : ℕ)
    (olds news : List T) → length news ≡ length olds → HaveAttended seat script first last olds news (length olds) →
    IsRow seat start count olds → IsRow seat start count news
row_attended seat script first last start count olds news long attended row =
    record {
      size = long ∙ row.size;
      numbers =
          λ k now at.
          ⊎_elim
          (λ there.
          let met = attended.met k there.0 now there.1 there.2 at in
          met_number _ (seat there.0) (seat now) met.met.told ∙ row.numbers k there.0 there.2)
          (λ past. absurd (omega (arith, past.0, long, slice_get_within news k now at)))
          (slice_get_cases olds k).1;
    }

-- of each lane what was executed or taken is known to be
pub started_at : {T : Type 0} (seat : T → SeatView) (place : T → ℕ) (script : ScriptModel) (opener : OpenerView)
    (lanes : List T) → AreLanes seat script lanes → AreHeard seat script opener lanes (length lanes) →
    HaveAllStarted seat place lanes (length lanes) → AreStartedAt script (lists_of opener.pen.seat) (places_of place lanes)
started_at seat place script opener lanes row heard started lane there p less =
    let at = at_row seat 0 (lane_count script) lane lanes row (omega arith) (omega (arith, there)) in
    let numbered : (seat at.1).number ≡ 0 + at.0 = row.numbers at.0 at.1 at.3 in
    let where_ : at.0 ≡ lane = omega (arith, numbered, at.4) in
    let next : slice_index (places_of place lanes) lane ≡ place at.1 =
    ap (slice_index (places_of place lanes)) (sym where_) ∙ place_at place lanes at.0 at.1 at.3 in
    let own_started : HasStarted (own (seat at.1)) (seat at.1).number p =
    started at.0 at.1 at.2 at.3 p (omega (arith, less, next)) in
    subst (λ n. HasStarted (lists_of opener.pen.seat n) n p) at.4
    (started_start (own (seat at.1)) (lists_of opener.pen.seat (seat at.1).number) (seat at.1).number p
    (heard at.0 at.1 at.2 at.3).heard own_started)

-- who was heard before an event of the opener is so behind it
gone_heard : {T : Type 0} (seat : T → SeatView) (script : ScriptModel) (clock : ClockId) (a b : OpenerView)
    (labels : List Labelled) (all : List T) (count : ℕ) → IsOpener script clock a → HasGone labels a.pen b.pen →
    ((n : ℕ) → joined_count n (steps_in labels) ≡ 0) → AreHeard seat script a all count →
    AreHeard seat script b all count
gone_heard seat script clock a b labels all count is gone quiet heard k one less at =
    let was = heard k one less at in
    let remembers : Remembers a.pen.seat b.pen.seat = gone_grows script clock a is b.pen labels gone quiet in
    record {
      heard = start_trans _ _ _ was.heard (remembers (seat one).number);
      behind = start_trans _ _ _ was.behind (steps_in labels, gone.steps);
    }

pub opened_heard : {T : Type 0} (seat : T → SeatView) (script : ScriptModel) (clock : ClockId) (a b : OpenerView)
    (all : List T) (count : ℕ) → IsOpener script clock a → HasOpened script a b → AreHeard seat script a all count →
    AreHeard seat script b all count
opened_heard seat script clock a b all count is held heard =
    gone_heard seat script clock a b held.drawn.labels all count is held.drawn.gone
    (λ n. drawn_quiet script n held.drawn.drawn) heard

pub restarted_heard : {T : Type 0} (seat : T → SeatView) (script : ScriptModel) (clock : ClockId) (a b : OpenerView)
    (all : List T) (count : ℕ) → IsOpener script clock a → HasRestarted a b → AreHeard seat script a all count →
    AreHeard seat script b all count
restarted_heard seat script clock a b all count is held heard =
    gone_heard seat script clock a b (shows event.Restart change.Same held.drawn ∷ []) all count is held.gone
    (λ n. refl) heard

pub closed_heard : {T : Type 0} (seat : T → SeatView) (script : ScriptModel) (clock : ClockId) (places : List ℕ)
    (way : Closing) (a b : OpenerView) (all : List T) (count : ℕ) → IsOpener script clock a →
    HasClosed script places way a b → AreHeard seat script a all count → AreHeard seat script b all count
closed_heard seat script clock places way a b all count is held heard =
    gone_heard seat script clock a b (closing_labels held.found held.looks way held.drawn) all count is held.gone
    (λ n. closing_quiet n held.found held.drawn held.looks way) heard

module _ {L W : Type 0} (lane : L → SeatView) (worker : W → SeatView) (script : ScriptModel) (clock : ClockId)
    (before first last : OpenerView) (lanes lanes_now : List L) (workers workers_now : List W)
    (is : IsOpener script clock before) (are_lanes : AreLanes lane script lanes)
    (are_workers : AreWorkers worker script workers) (lanes_heard : AreHeard lane script before lanes (length lanes))
    (workers_heard : AreHeard worker script before workers (length workers))
    (met : HaveAllMet lane worker script first last lanes lanes_now workers workers_now) where
  held_cuts : EventsAreCuts script (lists_of before.pen.seat) → HasDrawnEvent script before.pen.seat first.pen.seat →
      EventsAreCuts script (lists_of last.pen.seat)
  held_cuts cuts drawn =
      cuts_held lane worker script before first met.mid last lanes lanes_now workers workers_now is.number is.known drawn
      (drawn_remembers script before.pen.seat first.pen.seat is.number drawn.last) met.on_mid met.on_last cuts are_lanes
      are_workers lanes_heard workers_heard met.lanes_size met.workers_size met.lanes_met met.workers_met

  pub opened_cuts : HasOpened script before first → step_count draw_count (own before.pen.seat) ≡ 0 →
      EventsAreCuts script (lists_of last.pen.seat)
  opened_cuts held none =
      let number : first.pen.seat.number ≡ opener_seat script =
      ap (λ (seat : SeatView). seat.number) held.drawn.gone.seat
      ∙ stepped_number before.pen.seat (steps_in held.drawn.labels) ∙ is.number in
      ⊎_elim
      (λ (still : step_count draw_count (own first.pen.seat) ≡ 0).
      cuts_go_on script first last number (on_and_on first met.mid last met.on_mid met.on_last)
      (no_cuts script (lists_of first.pen.seat)
      (ap (λ n. step_count draw_count (lists_of first.pen.seat n)) (sym number) ∙ still)))
      (λ (drawn : HasDrawnEvent script before.pen.seat first.pen.seat).
      held_cuts
      (no_cuts script (lists_of before.pen.seat)
      (ap (λ n. step_count draw_count (lists_of before.pen.seat n)) (sym is.number) ∙ none))
      drawn)
      (opened_event script clock before is first held none)

  pub restarted_cuts : EventsAreCuts script (lists_of before.pen.seat) → HasRestarted before first →
      EventsAreCuts script (lists_of last.pen.seat)
  restarted_cuts cuts held = held_cuts cuts (restarted_event script before first is.number held)

  pub closed_cuts : (places : List ℕ) (way : Closing) → EventsAreCuts script (lists_of before.pen.seat) →
      HasClosed script places way before first → EventsAreCuts script (lists_of last.pen.seat)
  closed_cuts places way cuts held = held_cuts cuts (closed_event script places way before first is.number held)

  pub lanes_after : AreLanes lane script lanes_now
  lanes_after =
      row_attended lane script first met.mid 0 (lane_count script) lanes lanes_now met.lanes_size met.lanes_met are_lanes

  pub workers_after : AreWorkers worker script workers_now
  workers_after =
      row_attended worker script met.mid last (lane_count script) (worker_count script) workers workers_now
      met.workers_size met.workers_met are_workers
