-- Behind a whole event of the opener each event that it drew is a cut of every other number.
use Rattle.std.proofs.Common.{◌≡◌, ◌⊎◌, ⊎_elim, ℕ, ◌+◌, ◌-◌, ◌<◌, ◌≤◌, List, ◌++◌, Some, length, sym, ap, subst, ◌∙◌, arith}
use Rattle.std.specs.Prelude.{slice_get}
use Rattle.std.proofs.lemmas.Bool.{cases_lt}
use Rattle.std.proofs.lemmas.Option.{slice_get_cases}
use Rattle.session_script.specs.Script.{ScriptModel}
use Rattle.lane_clock.specs.declared.step.ClockStep.TheVariants.{Draw}
use Rattle.lane_clock.specs.Seats.{Remembers, SeatView, own}
use Rattle.lane_clock.specs.Steps.{draw_count, step_count}
use Rattle.lane_clock.proofs.KeepLemmas.{start_trans}
use Rattle.lane_logs.specs.Cuts.{EventsAreCuts, IsCut, IsEventAt}
use Rattle.lane_logs.specs.Knowing.{lists_of}
use Rattle.lane_logs.specs.SeatNumbers.{lane_count, opener_seat, worker_count}
use Rattle.lane_turns.specs.Attending.{AreHeard, HasAttended, HasDrawnLast, HasGoneOn, HaveAttended}
use Rattle.lane_turns.specs.Benches.{AreLanes, AreWorkers, IsRow}
use Rattle.lane_turns.specs.Meeting.{KnowsByJoins}
use Rattle.lane_turns.specs.Openers.{OpenerView}
use Rattle.lane_turns.proofs.AttendingLemmas.{on_and_on, on_same}
use Rattle.lane_turns.proofs.CutLemmas.{HasMadeLast, cut_made, cut_outlives, drawn_made}
use Rattle.lane_turns.proofs.EventIndexLemmas.{event_before, index_within}

-- where the opener drew nothing since, its cuts are those that were
pub cuts_on : (script : ScriptModel) (a b : SeatView) → Remembers a b →
    step_count draw_count (lists_of b (opener_seat script)) ≡ step_count draw_count (lists_of a (opener_seat script)) →
    EventsAreCuts script (lists_of a) → EventsAreCuts script (lists_of b)
cuts_on script a b remembers same cuts j n is below =
    let o : ℕ = opener_seat script in
    let was : IsEventAt script (lists_of a) j =
    event_before script (lists_of a) (lists_of b) (remembers o) same j is in
    let within = index_within (lists_of a o) j (Draw was.shown was.changes was.found) was.drawn in
    cut_outlives script a b j n remembers (omega (arith, within)) (cuts j n was below)

own_draws : (script : ScriptModel) (a b : OpenerView) → a.pen.seat.number ≡ opener_seat script → HasGoneOn a b →
    step_count draw_count (lists_of b.pen.seat (opener_seat script))
    ≡ step_count draw_count (lists_of a.pen.seat (opener_seat script))
own_draws script a b number on =
    ap (λ n. step_count draw_count (lists_of b.pen.seat n)) (sym (on.number ∙ number)) ∙ on.draws
    ∙ ap (λ n. step_count draw_count (lists_of a.pen.seat n)) number

pub cuts_go_on : (script : ScriptModel) (a b : OpenerView) → a.pen.seat.number ≡ opener_seat script → HasGoneOn a b →
    EventsAreCuts script (lists_of a.pen.seat) → EventsAreCuts script (lists_of b.pen.seat)
cuts_go_on script a b number on cuts =
    cuts_on script a.pen.seat b.pen.seat on.remembers (own_draws script a b number on) cuts

-- a number of a row stands in it
pub at_row : {T : Type 0} (seat : T → SeatView) (first count n : ℕ) (all : List T) → IsRow seat first count all →
    first ≤ n → n < first + count → (k : ℕ) × (one : T) × (k < length all) × (slice_get all k ≡ Some one) × ((seat one).number ≡ n)
at_row seat first count n all row after before =
    ⊎_elim
    (λ there.
    let numbered = row.numbers (n - first) there.0 there.2 in
    (n - first, there.0, there.1, there.2, omega (arith, numbered, after)))
    (λ past. absurd (omega (arith, past.0, row.size, after, before)))
    (slice_get_cases all (n - first)).1

-- a seat that met the opener within some time met it within a longer one
pub attended_within : (script : ScriptModel) (a first last b : OpenerView) (old new : SeatView) → HasGoneOn a first →
    HasGoneOn last b → HasAttended script first last old new → HasAttended script a b old new
attended_within script a first last b old new before after was =
    record {
      old = was.old;
      new = was.new;
      since = on_and_on a first was.old before was.since;
      met = was.met;
      owns = was.owns;
      till = on_and_on was.new last b was.till after;
    }

row_within : {T : Type 0} (seat : T → SeatView) (script : ScriptModel) (a first last b : OpenerView)
    (olds news : List T) (count : ℕ) → HasGoneOn a first → HasGoneOn last b →
    HaveAttended seat script first last olds news count → HaveAttended seat script a b olds news count
row_within seat script a first last b olds news count before after was =
    record {
      met =
          λ k old new less at now.
          attended_within script a first last b (seat old) (seat new) before after (was.met k old new less at now);
      rest = was.rest;
    }

-- the opener drew an event as its last step, and of its events that one alone is new
pub record HasDrawnEvent (script : ScriptModel) (before after : SeatView) : Type 0 where
  pub last : HasDrawnLast before after
  pub only : (j : ℕ) → IsEventAt script (lists_of after) j →
      (IsEventAt script (lists_of before) j) ⊎ (j ≡ length (own before ++ last.front))

-- a row of seats that were heard before a step of the opener and met behind it
module _ {T : Type 0} (seat : T → SeatView) (script : ScriptModel) (before : OpenerView) (first last : OpenerView)
    (olds news : List T) (start count : ℕ) (row : IsRow seat start count olds)
    (heard : AreHeard seat script before olds (length olds)) (long : length news ≡ length olds)
    (attended : HaveAttended seat script first last olds news (length olds)) where
  row_cut : (number : before.pen.seat.number ≡ opener_seat script) (known : KnowsByJoins before.pen.seat)
      (made : HasMadeLast before.pen.seat first.pen.seat) (n : ℕ) → start ≤ n → n < start + count → n < opener_seat script →
      IsCut script (lists_of last.pen.seat) (length (own before.pen.seat ++ made.front)) n
  row_cut number known made n after less below =
      let there = at_row seat start count n olds row after less in
      ⊎_elim
      (λ now.
      subst (IsCut script (lists_of last.pen.seat) (length (own before.pen.seat ++ made.front))) there.4
      (cut_made script before.pen.seat first last (seat there.1) (seat now.0) number known made
      (λ same. absurd (omega (arith, same, there.4, below)))
      (heard there.0 there.1 there.2 there.3).heard
      (attended.met there.0 there.1 now.0 there.2 there.3 now.2)))
      (λ past. absurd (omega (arith, past.0, long, there.2)))
      (slice_get_cases news there.0).1

-- all lanes and then all workers met the opener behind a step of it: that is a cut of each
module _ {L W : Type 0} (lane : L → SeatView) (worker : W → SeatView) (script : ScriptModel)
    (before first mid last : OpenerView) (lanes lanes_now : List L) (workers workers_now : List W)
    (number : before.pen.seat.number ≡ opener_seat script) (known : KnowsByJoins before.pen.seat)
    (made : HasMadeLast before.pen.seat first.pen.seat) (on_mid : HasGoneOn first mid) (on_last : HasGoneOn mid last) where
  pub all_cut : AreLanes lane script lanes → AreWorkers worker script workers →
      AreHeard lane script before lanes (length lanes) → AreHeard worker script before workers (length workers) →
      length lanes_now ≡ length lanes → length workers_now ≡ length workers →
      HaveAttended lane script first mid lanes lanes_now (length lanes) →
      HaveAttended worker script mid last workers workers_now (length workers) → (n : ℕ) → n < opener_seat script →
      IsCut script (lists_of last.pen.seat) (length (own before.pen.seat ++ made.front)) n
  all_cut are_lanes are_workers lanes_heard workers_heard lanes_long workers_long lanes_met workers_met n below =
      ⊎_elim
      (λ (less : n < lane_count script).
      row_cut lane script before first last lanes lanes_now 0 (lane_count script) are_lanes lanes_heard lanes_long
      (row_within lane script first first mid last lanes lanes_now (length lanes) (on_same first) on_last lanes_met)
      number known made n (omega arith) (omega (arith, less)) below)
      (λ (more : lane_count script ≤ n).
      row_cut worker script before first last workers workers_now (lane_count script) (worker_count script) are_workers
      workers_heard workers_long
      (row_within worker script first mid last last workers workers_now (length workers) on_mid (on_same last)
      workers_met)
      number known made n more (omega (arith, below)) below)
      (cases_lt n (lane_count script))

-- the whole event: all lanes and then all workers met the opener behind it
module _ {L W : Type 0} (lane : L → SeatView) (worker : W → SeatView) (script : ScriptModel)
    (before first mid last : OpenerView) (lanes lanes_now : List L) (workers workers_now : List W)
    (number : before.pen.seat.number ≡ opener_seat script) (known : KnowsByJoins before.pen.seat)
    (drawn : HasDrawnEvent script before.pen.seat first.pen.seat) (remembers : Remembers before.pen.seat first.pen.seat)
    (on_mid : HasGoneOn first mid) (on_last : HasGoneOn mid last)
    (cuts : EventsAreCuts script (lists_of before.pen.seat)) where
  on : HasGoneOn first last
  on = on_and_on first mid last on_mid on_last

  first_number : first.pen.seat.number ≡ opener_seat script
  first_number = drawn.last.number ∙ number

  -- an event that the opener knew before is a cut still
  cut_before : (j n : ℕ) → IsEventAt script (lists_of before.pen.seat) j → n < opener_seat script →
      IsCut script (lists_of last.pen.seat) j n
  cut_before j n was below =
      let o : ℕ = opener_seat script in
      let within = index_within (lists_of before.pen.seat o) j (Draw was.shown was.changes was.found) was.drawn in
      cut_outlives script before.pen.seat last.pen.seat j n
      (λ k. start_trans _ _ _ (remembers k) (on.remembers k)) (omega (arith, within)) (cuts j n was below)

  pub cuts_held : AreLanes lane script lanes → AreWorkers worker script workers →
      AreHeard lane script before lanes (length lanes) → AreHeard worker script before workers (length workers) →
      length lanes_now ≡ length lanes → length workers_now ≡ length workers →
      HaveAttended lane script first mid lanes lanes_now (length lanes) →
      HaveAttended worker script mid last workers workers_now (length workers) →
      EventsAreCuts script (lists_of last.pen.seat)
  cuts_held are_lanes are_workers lanes_heard workers_heard lanes_long workers_long lanes_met workers_met j n is below =
      let at_first : IsEventAt script (lists_of first.pen.seat) j =
      event_before script (lists_of first.pen.seat) (lists_of last.pen.seat) (on.remembers (opener_seat script))
      (own_draws script first last first_number on) j is in
      ⊎_elim (λ (was : IsEventAt script (lists_of before.pen.seat) j). cut_before j n was below)
      (λ (now : j ≡ length (own before.pen.seat ++ drawn.last.front)).
      subst (λ k. IsCut script (lists_of last.pen.seat) k n) (sym now)
      (all_cut lane worker script before first mid last lanes lanes_now workers workers_now number known
      (drawn_made before.pen.seat first.pen.seat drawn.last) on_mid on_last are_lanes are_workers lanes_heard
      workers_heard lanes_long workers_long lanes_met workers_met n below))
      (drawn.only j at_first)
