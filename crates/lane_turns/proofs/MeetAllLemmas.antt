-- The opener knows what all knew that met it.
use Rattle.std.proofs.Common.{◌≡◌, ◌+◌, ◌<◌, ⊎_elim, ℕ, List, Some, length, sym, subst, ap, ◌∙◌, arith}
use Rattle.std.specs.Prelude.{slice_get}
use Rattle.std.proofs.lemmas.Option.{slice_get_cases}
use Rattle.session_script.specs.Script.{ScriptModel}
use Rattle.lane_clock.specs.Knowledge.{StartOf}
use Rattle.lane_clock.specs.Seats.{Remembers, SeatView, own}
use Rattle.lane_clock.proofs.KeepLemmas.{start_trans}
use Rattle.lane_map.specs.LaneNumbers.{reactor_lane}
use Rattle.lane_map.proofs.NumberLemmas.{lane_count as lanes_and_reactor}
use Rattle.lane_logs.specs.Knowing.{lists_of}
use Rattle.lane_turns.specs.Attending.{AreHeard, HasAttended, HasGoneOn, HaveAttended, KnowsAllOf}
use Rattle.lane_turns.specs.Benches.{AreLanes}
use Rattle.lane_turns.specs.ClosingTries.{HasHeardFailure}
use Rattle.lane_turns.specs.KnownFaults.{KnowsFault, ReactorFailed, SomeStop}
use Rattle.lane_turns.specs.LaneValues.{Terms}
use Rattle.lane_turns.specs.Openers.{OpenerView}
use Rattle.lane_turns.proofs.AttendingLemmas.{on_and_on}
use Rattle.lane_turns.proofs.MeetingLemmas.{copied_steps}
use Rattle.lane_turns.proofs.ReactorFaultLemmas.{fault_remembered, stop_known}

attended_known : (script : ScriptModel) (first last : OpenerView) (before after : SeatView) →
    HasAttended script first last before after → Remembers before last.pen.seat
attended_known script first last before after it n =
    start_trans _ _ _ (it.met.told.remembers n)
    (start_trans _ _ _
    (subst (λ steps. StartOf steps (lists_of it.new.pen.seat n)) (copied_steps after.known n)
    (it.met.heard.met.met.learns n))
    (it.till.remembers n))

pub below_size : {T : Type 0} (all : List T) (k : ℕ) (one : T) → slice_get all k ≡ Some one → k < length all
below_size all k one at =
    ⊎_elim (λ there. there.1) (λ past. absurd (let none = past.1 in cc (at, none))) (slice_get_cases all k).1

pub all_known : {T : Type 0} (seat : T → SeatView) (script : ScriptModel) (first last : OpenerView) (olds news : List T) →
    length news ≡ length olds → HaveAttended seat script first last olds news (length olds) → KnowsAllOf seat last olds
all_known seat script first last olds news size attended k one at =
    let less = below_size olds k one at in
    ⊎_elim
    (λ there.
    attended_known script first last (seat one) (seat there.0) (attended.met k one there.0 less at there.2))
    (λ past. absurd (omega (arith, past.0, size, less)))
    (slice_get_cases news k).1

-- who heard all lanes heard a failure of the reactor
pub failure_heard : {T : Type 0} (seat : T → SeatView) (script : ScriptModel) (opener : OpenerView) (lanes : List T) →
    AreLanes seat script lanes → AreHeard seat script opener lanes (length lanes) → ReactorFailed seat script lanes →
    KnowsFault script opener.pen.seat
failure_heard seat script opener lanes row heard broken =
    let n : ℕ = reactor_lane script in
    let within : n < length lanes = omega (arith, row.size, lanes_and_reactor script) in
    ⊎_elim
    (λ there.
    let number : (seat there.0).number ≡ 0 + n = row.numbers n there.0 there.2 in
    let here : (seat there.0).number ≡ n = omega (arith, number) in
    subst (λ k. SomeStop (lists_of opener.pen.seat k)) here
    (stop_known (own (seat there.0)) (lists_of opener.pen.seat (seat there.0).number)
    (heard n there.0 within there.2).heard (broken there.0 there.2)))
    (λ past. absurd (omega (arith, past.0, within)))
    (slice_get_cases lanes n).1

-- and knows it still
pub failure_on : {H X : Type 0} (t : Terms H X) (a b c : OpenerView) → HasHeardFailure t a b → HasGoneOn b c →
    HasHeardFailure t a c
failure_on t a b c heard on =
    record {
      on = on_and_on a b c heard.on on;
      knows = fault_remembered t.names.script b.pen.seat c.pen.seat on.remembers heard.knows;
      had = heard.had;
    }
