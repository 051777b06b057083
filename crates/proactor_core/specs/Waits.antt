-- The waits of all timers (Asio reference, steady_timer::async_wait, ::cancel, ::cancel_one and
-- ::expires_after).
use Rattle.std.specs.Prelude.{◌≡◌, ◌<◌, ◌≤◌, ◌^◌, ℕ, ◌+◌, ◌==◌, All, Bool, not, nat_le, List, [], ◌∷◌, Option, Some, None, length, map, filter, replicate}
use Rattle.std.specs.List.{slice_index_or}
use Rattle.stream_rules.specs.declared.queue.Completion.{Completion}
use Rattle.history_rules.specs.Performing.{aborted, is_wait_for, is_wait_of}
use Rattle.history_rules.specs.Settling.{sorted_by, waited}
use Rattle.history_rules.specs.declared.wait.Wait.{Wait}
use Rattle.history_rules.specs.Waits.{expiry_in}
use Rattle.timer_queue.specs.declared.entry.TimerEntry.{TimerEntry}
use Rattle.timer_queue.specs.Queue.{Timers}

-- the timers and what waits for them
pub record Waiting : Type 0 where
  -- for each timer its expiry
  pub expiries : List ℕ
  -- the waits, in order of acceptance
  pub waits : List Wait
  -- how many were accepted so far
  pub accepted : ℕ
  -- for each timer how many waits it has room for
  pub rooms : List ℕ
  -- how many acts there are; the number of an operation is below it
  pub acts : ℕ

-- timers with these rooms, all with expiry 0, and no waits
abbrev pub no_waits : List ℕ → ℕ → Waiting
no_waits rooms acts = record {
  expiries = replicate (length rooms) 0;
  waits = [];
  accepted = 0;
  rooms = rooms;
  acts = acts;
}

-- the waits that pass the test are gone
abbrev pub without : (Wait → Bool) → Waiting → Waiting
without test w = record w { waits = filter (λ wait. not (test wait)) w.waits }

-- what the waits that pass the test tell where they are cancelled
abbrev pub aborts : (Wait → Bool) → Waiting → List Completion
aborts test w = map (λ wait. aborted wait.op 0) (filter test w.waits)

-- one wait is gone, if there is one
abbrev pub without_one : Option Wait → Waiting → Waiting
without_one None w = w
without_one (Some wait) w = without (is_wait_for wait.op) w

-- what one wait tells where it is cancelled, if there is one
abbrev pub abort_of_one : Option Wait → Waiting → List Completion
abort_of_one None w = []
abort_of_one (Some wait) w = aborts (is_wait_for wait.op) w

-- whether the timer of a wait has expired by now
abbrev pub has_expired : ℕ → List ℕ → Wait → Bool
has_expired now expiries wait = nat_le (expiry_in expiries wait) now

-- what the waits tell whose timers have expired by now, by expiry and then by acceptance
abbrev pub expired : ℕ → Waiting → List Completion
expired now w =
    map waited (sorted_by (expiry_in w.expiries) (filter (has_expired now w.expiries) w.waits))

-- the wait of this operation is the first of its timer, and only it has left
pub record TakesFirstOf (timer op : ℕ) (old new : Waiting) : Type 0 where
  pub first : filter (is_wait_of timer) old.waits
      ≡ record { op = op; timer = timer } ∷ filter (is_wait_of timer) new.waits
  pub only : new ≡ without (is_wait_for op) old
  pub once : aborts (is_wait_for op) old ≡ aborted op 0 ∷ []
  pub others : filter (λ wait. not (is_wait_of timer wait)) new.waits
      ≡ filter (λ wait. not (is_wait_of timer wait)) old.waits
  pub fewer : length new.waits + 1 ≡ length old.waits

-- the wait of this operation expires first of those that have expired by now, and only it has left
pub record TakesExpired (now op : ℕ) (old new : Waiting) : Type 0 where
  pub first : expired now old ≡ waited (record { op = op; timer = 0 }) ∷ expired now new
  pub same : new ≡ record old { waits = new.waits }
  pub others : filter (λ wait. not (has_expired now old.expiries wait)) new.waits
      ≡ filter (λ wait. not (has_expired now old.expiries wait)) old.waits
  pub fewer : length new.waits + 1 ≡ length old.waits

-- What follows is for this crate alone: how the waits lie in a queue of timers.

abbrev pub serial_of : TimerEntry → ℕ
serial_of entry = entry.serial

abbrev pub expiry_of_entry : TimerEntry → ℕ
expiry_of_entry entry = entry.expiry

abbrev pub is_entry_for : ℕ → TimerEntry → Bool
is_entry_for op entry = entry.op == op

-- the wait of an entry, where the timers of operations are these
abbrev pub wait_of : List ℕ → TimerEntry → Wait
wait_of timers entry = record { op = entry.op; timer = slice_index_or timers entry.op 0 }

-- the waits of entries, in order of acceptance
abbrev pub waits_of : List ℕ → List TimerEntry → List Wait
waits_of timers entries = map (wait_of timers) (sorted_by serial_of entries)

-- the operations of a timer that are pending, in order of acceptance
abbrev pub ops_of : ℕ → List ℕ → List TimerEntry → List ℕ
ops_of timer timers entries =
    map (λ wait. wait.op) (filter (is_wait_of timer) (waits_of timers entries))

-- an entry that was accepted, of an operation of a timer, with that timer's expiry
pub record IsAccepted (expiries timers : List ℕ) (accepted : ℕ) (entry : TimerEntry) : Type 0 where
  pub serial : entry.serial < accepted
  pub op : entry.op < length timers
  pub timer : slice_index_or timers entry.op 0 < length expiries
  pub expiry : expiry_in expiries (wait_of timers entry) ≡ entry.expiry

-- the entries are in order, each of another operation, and each timer's queue has its operations
pub record IsWaits (expiries timers : List ℕ) (queue : Timers) (queues : List (List ℕ))
    (accepted pending : ℕ) : Type 0 where
  pub in_order : sorted_by expiry_of_entry (sorted_by serial_of queue.waits) ≡ queue.waits
  pub each : All (IsAccepted expiries timers accepted) queue.waits
  pub once : (op : ℕ) → length (filter (is_entry_for op) queue.waits) ≤ 1
  pub count : length queue.waits ≡ pending
  pub room : queue.spare + pending ≡ length timers
  pub listed : (timer : ℕ) → timer < length queues →
      slice_index_or queues timer [] ≡ ops_of timer timers queue.waits
  pub lengths : length queues ≡ length expiries
  pub fewer : pending ≤ accepted
  pub few : accepted ≤ length timers
  pub small : length timers < 2 ^ 32
