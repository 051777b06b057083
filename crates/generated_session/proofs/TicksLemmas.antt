-- How time moves in a session that a number makes, once all its requests were taken.
use Rattle.std.proofs.Common.{◌≡◌, ℕ, ◌<◌, ◌≤◌, nat_lt, inr, Bool, true, false, cond, List, [], map, filter, Option, Some, None, refl, ap, subst, arith}
use Rattle.std.proofs.lemmas.List.Elements.{All-filter, All-map}
use Rattle.asio_types.specs.declared.outside.Point.TheVariants as point
use Rattle.session_script.specs.Script.{Entry}
use Rattle.stream_rules.specs.Stream.{Stream}
use Rattle.stream_rules.specs.World.{earlier_point}
use Rattle.history_rules.specs.Settling.{expiry_of, is_due}
use Rattle.history_rules.specs.State.{ReactorHalf}
use Rattle.history_rules.specs.declared.wait.Wait.{Wait}
use Rattle.history_rules.specs.Time.{next_expiry, next_time}
use Rattle.history_rules.specs.declared.phase.ActState.{ActState}
use Rattle.history_rules.proofs.TimeLemmas.{IsWithin, least_of-within, next-above}
use Rattle.generated_session.specs.Generator.{session_of}
use Rattle.generated_session.proofs.GatherLemmas.{all_any, gather, gather-same, most, most-each, plus}
use Rattle.generated_session.proofs.TurnsLemmas.{Turns, cut_by, to_come, to_come_beside, until}

-- the world has come so far, and nothing else changed
abbrev pub moved : ℕ → Bool → List Stream → ReactorHalf → ReactorHalf
moved time last streams r = record r { now = time; last = last; streams = streams }

pub turns_moved : (acts : List Entry) (states : List ActState) (r : ReactorHalf) (from time : ℕ) (last : Bool)
    (streams : List Stream) (left : List ℕ) → Turns acts states r from left → left ≡ [] →
    Turns acts states (moved time last streams r) from left
turns_moved acts states r from time last streams left turns none = record {
  working = turns.working;
  queues = turns.queues;
  guards = turns.guards;
  timers = turns.timers;
  size = turns.size;
  listed = turns.listed;
  taken = turns.taken;
  waiting = turns.waiting;
  pending = turns.pending;
  early = inr none;
}

nothing_cut : (b : Bool) → ◌≡◌ {A = ℕ} 0 (cond b 0 0)
nothing_cut true = refl
nothing_cut false = refl

-- no request cancels anything more
pub moved_to_come : (r : ReactorHalf) (time : ℕ) (last : Bool) (streams : List Stream) →
    to_come r [] ≡ to_come_beside (moved time last streams r) []
moved_to_come r time last streams =
    let next : ReactorHalf = moved time last streams r in
    let one =
    gather-same plus (cut_by []) (λ (w : Wait). cond (is_due next w) 0 (cut_by [] w)) r.waits
    (all_any (λ (w : Wait). cut_by [] w ≡ cond (is_due next w) 0 (cut_by [] w)) r.waits (λ w. nothing_cut (is_due next w))) in
    omega (arith, one)

point_of : (limit : Option ℕ) (time : ℕ) → earlier_point limit None ≡ point.Time time → limit ≡ Some time
point_of None time is = absurd (cc)
point_of (Some limit) time is = let same : limit ≡ time = cc in ap (λ n. Some n) same

-- time moves to no later than the last expiry
pub ticks_within : (acts : List Entry) (r : ReactorHalf) (time : ℕ) → next_time (session_of acts) r ≡ point.Time time →
    (r.now < time) × (time ≤ gather most (expiry_of r) r.waits)
ticks_within acts r time next =
    let first : next_expiry r ≡ Some time = point_of (next_expiry r) time next in
    let top : ℕ = gather most (expiry_of r) r.waits in
    let expiries : List ℕ = map (expiry_of r) r.waits in
    let each =
    All-filter (λ (t : ℕ). nat_lt r.now t) (λ (t : ℕ). t ≤ top) expiries
    (All-map (λ (t : ℕ). t ≤ top) (expiry_of r) r.waits (most-each (expiry_of r) r.waits)) in
    let within = least_of-within top (filter (λ (t : ℕ). nat_lt r.now t) expiries) each in
    (next-above r.now expiries time first, subst (λ (o : Option ℕ). IsWithin top o) first within)

pub ticked_until : (acts : List Entry) (r : ReactorHalf) (time : ℕ) (streams : List Stream) →
    next_time (session_of acts) r ≡ point.Time time → until r [] ≡ until (moved time r.last streams r) []
ticked_until acts r time streams next = let within = ticks_within acts r time next in omega (arith, within.0, within.1)
