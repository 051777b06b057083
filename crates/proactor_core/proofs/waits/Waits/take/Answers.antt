use Rattle.std.proofs.Common.{rules, ◌≡◌, ◌<◌, ◌==◌, not, true, false, ℕ, List, length, map, filter, set, get_or, deque_capacity, deque_items, refl, ap, sym, subst, ◌∙◌, arith}
use Rattle.std.specs.List.{All, Any}
use Rattle.std.proofs.lemmas.Fn.{filter_same}
use Rattle.std.proofs.lemmas.List.{get_or_default, length-map, map-set}
use Rattle.history_rules.specs.Performing.{aborted, is_wait_for}
use Rattle.timer_queue.specs.declared.entry.TimerEntry.{TimerEntry}
use Rattle.timer_queue.specs.Queue.{Timers}
use Rattle.timer_queue.proofs.OrderLemmas.{is_other}
use Rattle.proactor_core.specs.Waits.{IsWaits, Waiting, is_entry_for, ops_of, waits_of}
use Rattle.proactor_core.proofs.FilterLemmas.{filter-all, filter-none}
use Rattle.proactor_core.proofs.RemovalLemmas.{abort-one, fewer, left-queue, not-there, ops-rest, there-once, view-rest}
use Rattle.proactor_core.proofs.WaitLemmas.{filter-waits, length-waits, map-set_same, read-at, same-timers}
use Rattle.proactor_core.proofs.waits.Waits.take.Goals as goal
use Rattle.proactor_core.proofs.waits.Waits.take.Goals.{Then-not-remove}

-- no entry is of this operation
absent : (c : Then-not-remove) → All (λ e. is_entry_for c.args.op e ≡ false) c.self.inside.queue.waits
absent c =
    not-there c.args.op c.self.inside.queue.waits
    (λ any. let no : false ≡ true = c.if-not-remove.ensures.there.1 any in absurd (cc))

pub invariant_of-self : goal.invariant_of-self
invariant_of-self c =
    let q = c.self.inside.queue in
    let all : filter (is_other c.args.op) q.waits ≡ q.waits =
    filter-all (is_other c.args.op) q.waits (λ k d b. ap not (absent c k d b)) in
    let same =
    same-timers c.remove.new.self q.waits q.spare (c.remove.ensures.waits ∙ all) c.if-not-remove.ensures.same_room in
    let P : Timers → Type 0 = λ t.
    IsWaits c.self.inside.expiries.items c.self.inside.timer_of.items t (map deque_items c.self.inside.of_timer.items)
    c.self.inside.accepted c.self.inside.pending in
    subst P (sym same) c.self.invariant

pub returns-then-not-remove-clause-waits : goal.returns-then-not-remove-clause-waits
returns-then-not-remove-clause-waits c =
    rw (← c.self.view_is) (view-rest c.args.op c.self.inside.expiries.items c.self.inside.timer_of.items
    c.self.inside.queue.waits c.remove.new.self.waits c.self.inside.accepted (length c.self.inside.timer_of.items)
    (map deque_capacity c.self.inside.of_timer.items) (map deque_capacity c.self.inside.of_timer.items)
    c.remove.ensures.waits refl)

pub returns-then-not-remove-clause-absent : goal.returns-then-not-remove-clause-absent
returns-then-not-remove-clause-absent c =
    let timers = c.self.inside.timer_of.items in
    let q = c.self.inside.queue.waits in
    rw (← c.self.view_is) (ap (map (λ wait. aborted wait.op 0)) (filter-waits timers (is_wait_for c.args.op) q
    ∙ ap (waits_of timers) (filter-none (is_entry_for c.args.op) q (absent c))))

there : (timers : List ℕ) (expiries : List ℕ) (queue : Timers) (queues : List (List ℕ)) (accepted pending op : ℕ) →
    IsWaits expiries timers queue queues accepted pending → Any (λ e. e.op ≡ op) queue.waits →
    get_or timers op 0 < length queues
there timers expiries queue queues accepted pending op is any =
    let each = is.each any.0 any.1 any.2 in
    let same : (get_or queue.waits any.0 any.1).op ≡ op = ap (λ (e : TimerEntry). e.op) any.3 ∙ any.4 in
    let long = is.lengths in
    let P : ℕ → Type 0 = λ n. get_or timers n 0 < length queues in
    subst P same (let b = each.timer in omega arith)

pub invariant_of-self-2 : goal.invariant_of-self-2
invariant_of-self-2 c =
    let op = c.args.op in
    let timers = c.self.inside.timer_of.items in
    let q = c.self.inside.queue in
    let queues = map deque_items c.self.inside.of_timer.items in
    let any = c.if-not-remove.ensures.there.0 refl in
    let once = there-once op q.waits (c.self.invariant.once op) any in
    let acts = ap (λ (w : Waiting). w.acts) c.self.view_is in
    let of_op =
    c.index-timer.ensures ∙ get_or_default timers op c.index-timer.result.now 0 (omega (arith, c.requires)) in
    let within =
    there timers c.self.inside.expiries.items q queues c.self.inside.accepted c.self.inside.pending op c.self.invariant any in
    let long = length-map c.self.inside.of_timer.items (deque_items {X = ℕ}) in
    let at =
    read-at deque_items c.self.inside.of_timer.items c.index-timer.result.now c.index_mut-waiting.result.now
    (omega arith) c.index_mut-waiting.ensures.value in
    let kept = filter_same _ _ _ (λ x b f' k. search rules) _ _ c.retain.ensures.filtered in
    let ops : c.retain.new.self.items ≡ ops_of c.index-timer.result.now timers (filter (is_other op) q.waits) =
    kept ∙ ap (filter (λ n. not (n == op))) (at ∙ c.self.invariant.listed c.index-timer.result.now (omega arith))
    ∙ sym (ops-rest timers op q.waits c.index-timer.result.now) in
    left-queue c.self.inside.expiries.items timers q queues c.self.inside.accepted c.self.inside.pending op
    c.self.invariant once c.remove.new.self c.index-timer.result.now c.retain.new.self.items
    (map deque_items (set c.self.inside.of_timer.items c.index-timer.result.now c.retain.new.self))
    c.remove.ensures.waits c.if-not-remove.ensures.room of_op (omega arith) ops
    (map-set deque_items c.self.inside.of_timer.items c.index-timer.result.now c.retain.new.self)

pub returns-clause-waits : goal.returns-clause-waits
returns-clause-waits c =
    let op = c.args.op in
    let timers = c.self.inside.timer_of.items in
    let q = c.self.inside.queue in
    let queues = map deque_items c.self.inside.of_timer.items in
    let acts = ap (λ (w : Waiting). w.acts) c.self.view_is in
    let of_op =
    c.index-timer.ensures ∙ get_or_default timers op c.index-timer.result.now 0 (omega (arith, c.requires)) in
    let among =
    there timers c.self.inside.expiries.items q queues c.self.inside.accepted c.self.inside.pending op c.self.invariant
    (c.if-not-remove.ensures.there.0 refl) in
    let long = length-map c.self.inside.of_timer.items (deque_items {X = ℕ}) in
    let within : c.index-timer.result.now < length c.self.inside.of_timer.items = omega arith in
    let same =
    map-set_same deque_capacity c.self.inside.of_timer.items c.index-timer.result.now c.retain.new.self within
    (c.retain.ensures.capacity
    ∙ ap deque_capacity (c.index_mut-waiting.ensures.value ∙ get_or_default _ _ _ _ within)) in
    rw (← c.self.view_is) (view-rest op c.self.inside.expiries.items timers q.waits c.remove.new.self.waits
    c.self.inside.accepted (length timers) (map deque_capacity c.self.inside.of_timer.items)
    (map deque_capacity (set c.self.inside.of_timer.items c.index-timer.result.now c.retain.new.self))
    c.remove.ensures.waits same)

pub returns-clause-there : goal.returns-clause-there
returns-clause-there c =
    let q = c.self.inside.queue.waits in
    rw (← c.self.view_is) (abort-one c.self.inside.timer_of.items c.args.op q
    (there-once c.args.op q (c.self.invariant.once c.args.op) (c.if-not-remove.ensures.there.0 refl)))

pub returns-clause-fewer : goal.returns-clause-fewer
returns-clause-fewer c =
    let timers = c.self.inside.timer_of.items in
    let q = c.self.inside.queue.waits in
    let once = there-once c.args.op q (c.self.invariant.once c.args.op) (c.if-not-remove.ensures.there.0 refl) in
    let less =
    fewer c.self.inside.expiries.items timers c.self.inside.queue (map deque_items c.self.inside.of_timer.items)
    c.self.inside.accepted c.self.inside.pending c.args.op c.self.invariant once in
    let after : length c.remove.new.self.waits ≡ length (filter (is_other c.args.op) q) =
    ap length c.remove.ensures.waits in
    let old_long = length-waits timers q in
    let new_long = length-waits timers c.remove.new.self.waits in
    rw (← c.self.view_is) (omega arith)
