use Rattle.std.proofs.Common.{◌≡◌, ◌<◌, ℕ, ap, length, refl, subst, sym, ◌∙◌}
use Rattle.history_book.specs.Replay.{Replayed}
use Rattle.history_rules.specs.Legal.{state_of}
use Rattle.history_rules.specs.State.{act_at}
use Rattle.session_orders.specs.Same.{bare}
use Rattle.session_orders.proofs.SameLemmas.{same_come}
use Rattle.session_orders.proofs.same.is_same.Goals as goal

pub returns : goal.returns
returns c is =
    let script = c.args.script.now in
    let told = c.args.kind.told in
    let Q : Replayed → Replayed → Type 0 =
    λ a b. (n : ℕ) → n < length a.script.acts → act_at a.state.context n ≡ act_at b.state.context n in
    same_come script c.args.kind c.args.first.now.replay c.args.second.now.replay c.args.first.now.path
    c.args.second.now.path c.requires.first c.requires.second
    (ap (λ p. bare (state_of script told p)) (sym c.path-path.ensures) ∙ c.are_alike.ensures is told
    ∙ ap (λ p. bare (state_of script told p)) c.path-other.ensures)
    (subst (λ a. Q a c.args.second.now.replay) c.replay-came.ensures
    (subst (λ b. Q c.replay-came.result.now b) c.replay-went.ensures (c.if-not-have_same_acts.ensures refl)))
