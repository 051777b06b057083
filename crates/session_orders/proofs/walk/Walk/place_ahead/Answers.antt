use Rattle.std.proofs.Common.{◌≡◌, ◌<◌, ◌≤◌, ◌+◌, ◌-◌, ◌*◌, ◌/◌, ◌%◌, ℕ, arith, refl, subst, sym}
use Rattle.asio_types.specs.declared.code.Code.{Code}
use Rattle.history_rules.specs.Legal.{state_of}
use Rattle.history_rules.specs.Requests.{MayTell}
use Rattle.session_orders.specs.Place.{asked_of, base_of, sizes}
use Rattle.session_orders.specs.Walk.{NoneBetween}
use Rattle.session_orders.proofs.SkipLemmas.{none_of_op, none_of_size}
use Rattle.session_orders.proofs.walk.Walk.place_ahead.Goals as goal

pub returns-then-not-may_be_told-clause-none : goal.returns-then-not-may_be_told-clause-none
returns-then-not-may_be_told-clause-none c =
    let script = c.args.self.now.script.now in
    let kind = c.args.self.now.kind in
    let path = c.args.self.now.path.items in
    let place = c.args.self.now.place in
    let base : c.base-base.result ≡ base_of script = c.base-base.ensures.base in
    let past : c.base-base.result ≤ place = omega (arith, c.if-self-base.false) in
    let N : ℕ → Type 0 =
    λ b. NoneBetween script kind (state_of script kind.told path) place (b + ((place - b) / sizes / 7 + 1) * 7 * sizes) in
    subst N (sym base)
    (none_of_op script kind c.args.self.now.replay path place ((place - base_of script) / sizes / 7) c.requires.come
    (omega (arith, past, base)) refl
    (let told = c.if-not-may_be_told.ensures refl in
    let M : ℕ → Type 0 =
    λ b. (code : Code) (size : ℕ) →
    MayTell c.args.self.now.replay.script c.args.self.now.replay.told c.args.self.now.replay.state.reactor
    ((place - b) / sizes / 7) code size → ⊥ in
    subst M base told))

pub returns-then-self-base-2-clause-none : goal.returns-then-self-base-2-clause-none
returns-then-self-base-2-clause-none c =
    let script = c.args.self.now.script.now in
    let kind = c.args.self.now.kind in
    let path = c.args.self.now.path.items in
    let place = c.args.self.now.place in
    let base : c.base-base.result ≡ base_of script = c.base-base.ensures.base in
    let past : c.base-base.result ≤ place = omega (arith, c.if-self-base.false) in
    let N : ℕ → Type 0 =
    λ b. NoneBetween script kind (state_of script kind.told path) place (b + ((place - b) / sizes + 1) * sizes) in
    let asked : c.asked_of.result ≡ asked_of script ((place - c.base-base.result) / sizes / 7) = c.asked_of.ensures in
    let more : c.asked_of.result < (place - c.base-base.result) % sizes = omega (arith, c.if-self-base-2.true) in
    let M : ℕ → Type 0 = λ b. asked_of script ((place - b) / sizes / 7) < (place - b) % sizes in
    let here : M c.base-base.result = subst (λ n. n < (place - c.base-base.result) % sizes) asked more in
    subst N (sym base)
    (none_of_size script kind c.args.self.now.replay path place ((place - base_of script) / sizes) c.requires.come
    (omega (arith, past, base)) refl (subst M base here))
