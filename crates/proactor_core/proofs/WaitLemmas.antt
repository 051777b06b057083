-- The waits of a queue's entries, in order of acceptance.
use Rattle.std.proofs.Common.{◌≡◌, ◌≢◌, ℕ, ◌<◌, ◌≤◌, Bool, List, [], length, map, filter, get_or, set, refl, ap, sym, subst, ◌∙◌, arith, inl, inr}
use Rattle.std.specs.List.{All}
use Rattle.std.proofs.lemmas.Bool.{cases_eq}
use Rattle.std.proofs.lemmas.List.{get_or-map, get_or-set_other, get_or-set_same, length-map, map-set, set-get_or}
use Rattle.std.proofs.lemmas.List.Elements.{All-map}
use Rattle.history_rules.specs.Performing.{is_wait_for}
use Rattle.history_rules.specs.Settling.{sorted_by}
use Rattle.history_rules.specs.declared.wait.Wait.{Wait}
use Rattle.timer_queue.specs.declared.entry.TimerEntry.{TimerEntry}
use Rattle.timer_queue.specs.Queue.{Timers}
use Rattle.proactor_core.specs.Waits.{is_entry_for, serial_of, wait_of, waits_of}
use Rattle.proactor_core.proofs.FilterLemmas.{filter-map}
use Rattle.proactor_core.proofs.SortingLemmas.{All-from_sorted_by, All-sorted_by, filter-sorted_by, length-sorted_by}

pub All-from_map : {X Y : Type 0} (P : Y → Type 0) (f : X → Y) (xs : List X) → All P (map f xs) → All (λ x. P (f x)) xs
All-from_map P f xs all = λ k d b. subst P (get_or-map f xs k d (f d) b) (all k (f d) (rw (length-map xs f) b))

module _ (timers : List ℕ) where
  pub filter-waits : (keep : Wait → Bool) (q : List TimerEntry) →
      filter keep (waits_of timers q) ≡ waits_of timers (filter (λ e. keep (wait_of timers e)) q)
  filter-waits keep q =
      filter-map keep (wait_of timers) (sorted_by serial_of q)
      ∙ ap (map (wait_of timers)) (filter-sorted_by serial_of (λ e. keep (wait_of timers e)) q)

  pub length-waits : (q : List TimerEntry) → length (waits_of timers q) ≡ length q
  length-waits q = length-map (sorted_by serial_of q) (wait_of timers) ∙ length-sorted_by serial_of q

  pub All-waits : (P : Wait → Type 0) (q : List TimerEntry) → All (λ e. P (wait_of timers e)) q → All P (waits_of timers q)
  All-waits P q all =
      All-map P (wait_of timers) (sorted_by serial_of q) (All-sorted_by serial_of (λ e. P (wait_of timers e)) q all)

  pub All-from_waits : (P : Wait → Type 0) (q : List TimerEntry) → All P (waits_of timers q) →
      All (λ e. P (wait_of timers e)) q
  All-from_waits P q all =
      All-from_sorted_by serial_of (λ e. P (wait_of timers e)) q (All-from_map P (wait_of timers) (sorted_by serial_of q) all)

  -- the timer of a wait is that of its operation
  pub timer-waits : (q : List TimerEntry) → All (λ wait. wait.timer ≡ get_or timers wait.op 0) (waits_of timers q)
  timer-waits q = All-waits (λ wait. wait.timer ≡ get_or timers wait.op 0) q (λ k d b. refl)

  pub once-waits : (q : List TimerEntry) → ((op : ℕ) → length (filter (is_entry_for op) q) ≤ 1) → (op : ℕ) →
      length (filter (is_wait_for op) (waits_of timers q)) ≤ 1
  once-waits q once op =
      let same = ap length (filter-waits (is_wait_for op) q) ∙ length-waits (filter (is_entry_for op) q) in
      let most = once op in
      omega arith

-- a queue is written where it has what its timer's operations are
pub listed-set : (queues : List (List ℕ)) (t : ℕ) (new : List ℕ) (ops : ℕ → List ℕ) → t < length queues → new ≡ ops t →
    ((n : ℕ) → n ≢ t → n < length queues → get_or queues n [] ≡ ops n) → (n : ℕ) → n < length queues →
    get_or (set queues t new) n [] ≡ ops n
listed-set queues t new ops within here others n b =
    elim (cases_eq n t) [
      | inl same ↦
          ap (λ m. get_or (set queues t new) m []) same ∙ get_or-set_same queues t new [] within ∙ here
          ∙ ap ops (sym same)
      | inr other ↦ get_or-set_other queues t n new [] other ∙ others n other b
    ]

-- what is written has the same image
pub map-set_same : {X Y : Type 0} (f : X → Y) (xs : List X) (i : ℕ) (x : X) → i < length xs → f x ≡ f (get_or xs i x) →
    map f (set xs i x) ≡ map f xs
map-set_same f xs i x b e =
    map-set f xs i x ∙ ap (set (map f xs) i) (e ∙ sym (get_or-map f xs i x (f x) b)) ∙ set-get_or (map f xs) i (f x)

pub same-timers : (a : Timers) (ws : List TimerEntry) (n : ℕ) → a.waits ≡ ws → a.spare ≡ n →
    a ≡ record { waits = ws; spare = n }
same-timers a ws n e f = rw (← e, ← f) refl

-- what a queue that was read has
pub read-at : {X : Type 0} (items : X → List ℕ) (xs : List X) (i : ℕ) (x : X) → i < length xs → x ≡ get_or xs i x →
    items x ≡ get_or (map items xs) i []
read-at items xs i x b e = ap items e ∙ sym (get_or-map items xs i x [] b)
