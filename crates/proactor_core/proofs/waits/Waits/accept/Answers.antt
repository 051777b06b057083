use Rattle.std.proofs.Common.{◌≢◌, ◌<◌, ◌++◌, ℕ, [], ◌∷◌, length, map, set, deque_capacity, deque_items, refl, ap, sym, subst, ◌∙◌, arith}
use Rattle.std.specs.List.{All}
use Rattle.std.proofs.lemmas.List.{get_or_default, length-map, map-set}
use Rattle.timer_queue.specs.declared.entry.TimerEntry.{TimerEntry}
use Rattle.proactor_core.specs.Waits.{Waiting}
use Rattle.proactor_core.proofs.AcceptLemmas.{accepts, view-accepted}
use Rattle.proactor_core.proofs.WaitLemmas.{All-from_waits, map-set_same, read-at}
use Rattle.proactor_core.proofs.waits.Waits.accept.Goals as goal
use Rattle.proactor_core.proofs.waits.Waits.accept.Goals.{After-index-expiry}

-- no entry is of this operation
new : (c : After-index-expiry) → All (λ (e : TimerEntry). e.op ≢ c.args.op) c.self.inside.queue.waits
new c =
    let P : Waiting → Type 0 = λ w. All (λ wait. wait.op ≢ c.args.op) w.waits in
    All-from_waits c.self.inside.timer_of.items (λ wait. wait.op ≢ c.args.op) c.self.inside.queue.waits
    (subst P (sym c.self.view_is) c.requires.new)

pub insert_reserved-requires-clause-apart : goal.insert_reserved-requires-clause-apart
insert_reserved-requires-clause-apart c =
    λ k d b.
    let older = (c.self.invariant.each k d b).serial in
    (λ e. omega arith, new (goal.at.insert_reserved-requires-clause-apart c).After-index-expiry k d b)

pub invariant_of-self : goal.invariant_of-self
invariant_of-self c =
    let seen = ap (λ (w : Waiting). length w.expiries) c.self.view_is in
    let acts = ap (λ (w : Waiting). w.acts) c.self.view_is in
    let taken = ap (λ (w : Waiting). w.accepted) c.self.view_is in
    let long = length-map c.self.inside.of_timer.items (deque_items {X = ℕ}) in
    let lengths = c.self.invariant.lengths in
    let within : c.args.timer < length c.self.inside.of_timer.items = omega (arith, c.requires) in
    let at =
    read-at deque_items c.self.inside.of_timer.items c.args.timer c.index_mut-waiting.result.now within
    c.index_mut-waiting.ensures.value in
    let e : TimerEntry = record { expiry = c.index-expiry.result.now; serial = c.self.inside.accepted; op = c.args.op } in
    let expiry =
    c.index-expiry.ensures
    ∙ get_or_default c.self.inside.expiries.items c.args.timer c.index-expiry.result.now 0 (omega (arith, c.requires)) in
    let written =
    map-set deque_items c.self.inside.of_timer.items c.args.timer c.push_back_reserved.new.self
    ∙ ap (set (map deque_items c.self.inside.of_timer.items) c.args.timer)
    (c.push_back_reserved.ensures.items ∙ ap (λ l. l ++ c.args.op ∷ []) at) in
    accepts c.self.inside.expiries.items c.self.inside.timer_of.items c.self.inside.queue
    (map deque_items c.self.inside.of_timer.items) c.self.inside.accepted c.self.inside.pending c.args.op c.args.timer
    c.self.invariant (omega (arith, c.requires)) (new (goal.at.invariant_of-self c).After-index-expiry) (omega arith)
    e refl refl expiry (omega (arith, c.requires)) c.insert_reserved.new.self
    (map deque_items (set c.self.inside.of_timer.items c.args.timer c.push_back_reserved.new.self))
    c.insert_reserved.ensures.waits c.insert_reserved.ensures.spare written

pub returns : goal.returns
returns c =
    let seen = ap (λ (w : Waiting). length w.expiries) c.self.view_is in
    let acts = ap (λ (w : Waiting). w.acts) c.self.view_is in
    let taken = ap (λ (w : Waiting). w.accepted) c.self.view_is in
    let long = length-map c.self.inside.of_timer.items (deque_items {X = ℕ}) in
    let lengths = c.self.invariant.lengths in
    let within : c.args.timer < length c.self.inside.of_timer.items = omega (arith, c.requires) in
    let e : TimerEntry = record { expiry = c.index-expiry.result.now; serial = c.self.inside.accepted; op = c.args.op } in
    let expiry =
    c.index-expiry.ensures
    ∙ get_or_default c.self.inside.expiries.items c.args.timer c.index-expiry.result.now 0 (omega (arith, c.requires)) in
    let same =
    map-set_same deque_capacity c.self.inside.of_timer.items c.args.timer c.push_back_reserved.new.self within
    (c.push_back_reserved.ensures.capacity
    ∙ ap deque_capacity (c.index_mut-waiting.ensures.value ∙ get_or_default _ _ _ _ within)) in
    rw (← c.self.view_is) (view-accepted c.self.inside.expiries.items c.self.inside.timer_of.items c.self.inside.queue
    (map deque_items c.self.inside.of_timer.items) c.self.inside.accepted c.self.inside.pending c.args.op
    c.args.timer c.self.invariant (omega (arith, c.requires)) (new (goal.at.returns c).After-index-expiry)
    (omega arith) e refl refl expiry (omega (arith, c.requires)) c.insert_reserved.new.self.waits
    (length c.self.inside.timer_of.items) (map deque_capacity c.self.inside.of_timer.items)
    (map deque_capacity (set c.self.inside.of_timer.items c.args.timer c.push_back_reserved.new.self))
    c.insert_reserved.ensures.waits same refl)
